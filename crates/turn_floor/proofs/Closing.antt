-- What is known of a floor that ended, by its passes.
use Rattle.std.proofs.Common.{◌≡◌, ◌≢◌, ℕ, ◌<◌, List, [], ◌∷◌, length, sym, refl, ap, ◌∙◌, subst, arith}
use Rattle.std.specs.Prelude.{slice_index_or}
use Rattle.std.specs.List.{All, AllByRecursion, remove}
use mathlib.Core.List.{IsPrefix}
use Rattle.stab_journal.specs.Own.{own}
use Rattle.stab_journal.specs.declared.event.Event.{Event}
use Rattle.turn_floor.specs.Joined.{Joined}
use Rattle.turn_floor.specs.Parts.{IsPass, PassParts}
use Rattle.turn_floor.specs.declared.view.View.{View}
use Rattle.turn_floor.proofs.Joins.{by_index}

pub uncons : {A : Type 0} (xs : List A) (d : A) → 0 < length xs → xs ≡ slice_index_or xs 0 d ∷ remove xs 0
uncons [] d lt = absurd (omega (arith, lt))
uncons (x ∷ xs) d lt = refl

pub all_seen : (passes others : List PassParts) (first : PassParts) (v w : View) (whole : List Event) → passes ≡ first ∷ others → v.seen ≡ first.seen → Joined v w others
    → IsPrefix w.seen whole → AllByRecursion (λ (old : List Event). IsPrefix old whole) w.olds → All (λ (p : PassParts). IsPrefix p.seen whole) passes
all_seen passes others first v w whole e saw j s olds =
    let covered = j.covers whole s olds in
    by_index (λ (p : PassParts). IsPrefix p.seen whole) passes (subst (AllByRecursion (λ (p : PassParts). IsPrefix p.seen whole)) (sym e) (subst (λ (l : List Event). IsPrefix l whole) saw covered.0, covered.2))

not_owner : (whole : List Event) (ps : List PassParts) → AllByRecursion (λ (p : PassParts). p.worker ≢ 1) ps → AllByRecursion (λ (p : PassParts). p.worker ≡ 1 → own 1 whole ≡ own 1 p.seen) ps
not_owner whole [] all = tt
not_owner whole (p ∷ ps) all = ((λ one. absurd (all.0 one)), not_owner whole ps all.1)

pub first_own : (passes others : List PassParts) (first : PassParts) (n : ℕ) (v w : View) (whole : List Event) → passes ≡ first ∷ others → IsPass v 1 n → v.seen ≡ first.seen → Joined v w others
    → w.own ≡ own w.worker whole → AllByRecursion (λ (p : PassParts). p.worker ≢ 1) others → All (λ (p : PassParts). p.worker ≡ 1 → own 1 whole ≡ own 1 p.seen) passes
first_own passes others first n v w whole e is saw j owned rest =
    let P : PassParts → Type 0 = λ p. p.worker ≡ 1 → own 1 whole ≡ own 1 p.seen in
    let mine : own 1 whole ≡ own 1 first.seen =
    ap (λ (k : ℕ). own k whole) (sym (j.worker ∙ is.number_is)) ∙ sym owned ∙ j.own ∙ is.own_is ∙ (λ i. own (is.number_is i) (saw i)) in
    by_index P passes (subst (AllByRecursion P) (sym e) ((λ _. mine), not_owner whole others rest))
