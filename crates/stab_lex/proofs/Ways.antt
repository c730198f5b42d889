-- Ways through a text, and the characters on them.
use Rattle.std.proofs.Common.{◌≡◌, ℕ, Bool, Option, None, Some, MatchOption, subst, List, [], ◌∷◌, ◌++◌, refl, sym, ap, ◌∙◌, arith, append_assoc, add-zero}
use Rattle.std.specs.Prelude.{IsTrue, IsFalse, ◌≢◌}
use Rattle.std.proofs.lemmas.Bool.{false≢true}
use Rattle.std.specs.List.{slice_get}
use Rattle.stab_lex.specs.Place.{Place, Leads}
use Rattle.stab_lex.specs.Pieces.{Pass, Stops}
use Rattle.stab_lex.proofs.Lengths.{byte_len-append}

pub Leads-none : (p : Place) → Leads [] p p
Leads-none p = record { text = refl; at = sym (add-zero p.at) }

pub Leads-append : {xs ys : List ℕ} {a b c : Place} → Leads xs a b → Leads ys b c → Leads (xs ++ ys) a c
Leads-append {xs} {ys} {a} {b} {c} first second = record {
  text = first.text ∙ ap (λ r. xs ++ r) second.text ∙ sym (append_assoc xs ys c.rest);
  at = omega (arith, first.at, second.at, byte_len-append xs ys);
}

pub Pass-append : (test : ℕ → Bool) (xs ys : List ℕ) → Pass test xs → Pass test ys → Pass test (xs ++ ys)
Pass-append test [] ys first second = second
Pass-append test (x ∷ xs) ys first second = (first.0, Pass-append test xs ys first.1 second)

-- the characters so far of a run that pass a test, on the way from one place to another
pub record Run (test : ℕ → Bool) (old new : Place) : Type 0 where
  pub passed : List ℕ
  pub way : Leads passed old new
  pub pass : Pass test passed

pub Run-more : {test : ℕ → Bool} {a b c : Place} {x : ℕ} → Run test a b → Leads (x ∷ []) b c → IsTrue (test x) → Run test a c
Run-more {test} {a} {b} {c} {x} run step passes = record {
  passed = run.passed ++ x ∷ [];
  way = Leads-append run.way step;
  pass = Pass-append test run.passed (x ∷ []) run.pass (passes, tt);
}

-- a step over the next character, which is known
pub bumped : {old new : Place} (c : ℕ) (r : Option ℕ) → Some c ≡ slice_get old.rest 0 → MatchOption r ((old.rest ≡ []) × (new ≡ old)) (λ d. Leads (d ∷ []) old new) → Leads (c ∷ []) old new
bumped {old} {new} c None known none = let e = ap (λ cs. slice_get cs 0) none.0 in absurd (cc)
bumped {old} {new} c (Some d) known step =
    let e : Some c ≡ Some d = known ∙ ap (λ cs. slice_get cs 0) step.text in
    let same : d ≡ c = cc in
    subst (λ x. Leads (x ∷ []) old new) same step

pub stops_at : (test : ℕ → Bool) (cs : List ℕ) (c : ℕ) → Some c ≡ slice_get cs 0 → IsFalse (test c) → Stops test cs
stops_at test [] c next fails = tt
stops_at test (x ∷ cs) c next fails = let same : c ≡ x = cc in subst (λ y. IsFalse (test y)) same fails

pub stops_at_end : (test : ℕ → Bool) (cs : List ℕ) → None ≡ slice_get cs 0 → Stops test cs
stops_at_end test [] next = tt
stops_at_end test (x ∷ cs) next = absurd (cc)

-- a run that stops before a character that fails, and that began before one that passes, isn't empty
pub nonempty : (test : ℕ → Bool) (cs rest passed : List ℕ) (c : ℕ) → slice_get cs 0 ≡ Some c → IsTrue (test c) → cs ≡ passed ++ rest → Stops test rest → passed ≢ []
nonempty test cs [] passed c next passes text stops empty =
    let e : slice_get cs 0 ≡ None = ap (λ xs. slice_get xs 0) (text ∙ ap (λ xs. xs ++ []) empty) in
    absurd (cc)
nonempty test cs (x ∷ rest) passed c next passes text stops empty =
    let e : slice_get cs 0 ≡ Some x = ap (λ xs. slice_get xs 0) (text ∙ ap (λ xs. xs ++ x ∷ rest) empty) in
    let same : x ≡ c = cc in
    absurd (false≢true (sym stops ∙ ap test same ∙ passes))
