-- What was read up to a length that it doesn't reach is all that was there.
use Rattle.std.proofs.Common.{◌≡◌, ◌<◌, ◌≤◌, ℕ, List, [], ◌++◌, Option, Some, None, IfSome, option_map, length, take, arith, length-take, take_all, ap, subst, ◌∙◌}
use Rattle.std.specs.Io.Take.{take_inner, take_limit, take_remaining}
use Rattle.std.specs.declared.io.traits.Take.{Take}

whole_known : (known : Option (List ℕ)) (n : ℕ) (old new : List ℕ) → old ≡ [] → IfSome (option_map (take n) known) (λ front. new ≡ old ++ front)
    → length new < n → IfSome known (λ all. new ≡ all)
whole_known None n old new none read short = tt
whole_known (Some all) n old new none read short =
    let is : new ≡ take n all = read ∙ ap (λ l. l ++ take n all) none in
    let long : length all ≤ n = omega (arith, ap length is, length-take n all, short) in
    is ∙ take_all n all long

pub whole_read : {R : Type 0} (remaining : R → Option (List ℕ)) (taken : Take R) (reader : R) (old new : List ℕ) → take_inner taken ≡ reader → old ≡ []
    → IfSome (take_remaining remaining taken) (λ front. new ≡ old ++ front) → length new < take_limit taken → IfSome (remaining reader) (λ all. new ≡ all)
whole_read remaining taken reader old new inner none read short =
    subst (λ r. IfSome (remaining r) (λ all. new ≡ all)) inner (whole_known (remaining taken.inner) taken.limit old new none read short)
