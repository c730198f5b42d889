-- The numbers that are handed out next, after an event.
use Rattle.std.proofs.Common.{◌≡◌, ℕ, ◌≤◌, max, fold, List, [], ◌∷◌, ◌++◌, refl, ap, ◌∙◌, append-nil, arith}
use Rattle.std.specs.List.{AllByRecursion, flat_map}
use Rattle.std.proofs.lemmas.Grind.{flat_map-append}
use Rattle.std.proofs.lemmas.List.Sums.{fold-append}
use Rattle.stab_journal.specs.declared.event.Event.{Event}
use Rattle.stab_journal.specs.declared.event.What.{What}
use Rattle.stab_journal.specs.Numbers.{greatest}

-- the numbers that an event names come last
pub greatest_snoc : (names : What → List ℕ) (es : List Event) (e : Event) → greatest names (es ++ e ∷ []) ≡ fold max (greatest names es) (names e.what)
greatest_snoc names es e =
    ap (fold max 0) (flat_map-append (λ (k : Event). names k.what) es (e ∷ []))
    ∙ ap (λ xs. fold max 0 (flat_map (λ (k : Event). names k.what) es ++ xs)) (append-nil (names e.what))
    ∙ fold-append max 0 (flat_map (λ (k : Event). names k.what) es) (names e.what)

pub all_less : (a b : ℕ) (xs : List ℕ) → a ≤ b → AllByRecursion (λ x. x ≤ a) xs → AllByRecursion (λ x. x ≤ b) xs
all_less a b [] h all = tt
all_less a b (x ∷ xs) h all = (omega (arith, all.0), all_less a b xs h all.1)

-- numbers that are no greater change nothing
pub no_greater : (g : ℕ) (xs : List ℕ) → AllByRecursion (λ x. x ≤ g) xs → fold max g xs ≡ g
no_greater g [] all = refl
no_greater g (x ∷ xs) all =
    let same : max g x ≡ g = omega (arith, all.0) in
    ap (λ k. fold max k xs) same ∙ no_greater g xs all.1

pub no_greater_than_one : (g : ℕ) (xs : List ℕ) → AllByRecursion (λ x. x ≤ max 1 g) xs → max 1 (fold max g xs) ≡ max 1 g
no_greater_than_one g [] all = refl
no_greater_than_one g (x ∷ xs) all =
    let same : max 1 (max g x) ≡ max 1 g = omega (arith, all.0) in
    no_greater_than_one (max g x) xs (all_less (max 1 g) (max 1 (max g x)) xs (omega arith) all.1) ∙ same
