-- Steps that are taken out from the end of a thread, down to a line.
use Rattle.std.proofs.Common.{◌≡◌, ℕ, zero, suc, ◌-◌, ◌<◌, ◌≤◌, Bool, true, false, cond, not, ◌&&◌, ◌||◌, nat_eq, List, [], ◌∷◌, ◌++◌, get_or, length, Some, refl, sym, ap, subst, ◌∙◌, arith, append_assoc, append-nil}
use Rattle.std.specs.Prelude.{nat_le, filter}
use Rattle.std.specs.List.{AllByRecursion, slice_index_or}
use Rattle.std.proofs.lemmas.Bool.Decides.{nat_tests}
use Rattle.std.proofs.lemmas.List.{get_or-set_same, get_or-set_other}
use Rattle.std.proofs.lemmas.List.Elements.{filter-append}
use Rattle.std.proofs.lemmas.List.Folds.{list_any-append}
use Rattle.std.proofs.lemmas.Option.{slice_get-get_or}
use Rattle.linked_lists.specs.Lists.{is_listed}
use Rattle.own_steps.specs.Own.{Seen, but_last, last_step, steps_of}
use Rattle.own_steps.proofs.Rows.{whole-last}
use Rattle.reach_line.specs.MarkList.{numbers}
use Rattle.stab_base.specs.declared.numbers.Seq.{Seq}
use Rattle.commit_book.specs.OwnSteps.{IsTaken, IsTakenSoFar, Rises}

at_end : (P : ℕ → Type 0) (qs : List ℕ) (q : ℕ) → AllByRecursion P (qs ++ q ∷ []) → P q
at_end P [] q all = all.0
at_end P (p ∷ qs) q all = at_end P qs q all.1

below_end : (qs : List ℕ) (q line : ℕ) → Rises (qs ++ q ∷ []) → q < line → AllByRecursion (λ p. p < line) (qs ++ q ∷ [])
below_end [] q line rise low = (low, tt)
below_end (p ∷ qs) q line rise low = (let first = at_end (λ r. p ≤ r) qs q rise.0 in omega arith, below_end qs q line rise.1 low)

-- rising steps are below a line where the last one is
below_all : (qs : List ℕ) (line : ℕ) → Rises qs → ((q : ℕ) → last_step qs ≡ Some q → q < line) → AllByRecursion (λ p. p < line) qs
below_all [] line rise low = tt
below_all (p ∷ qs) line rise low =
    let n = length (p ∷ qs) - 1 in
    let q : ℕ = get_or (p ∷ qs) n p in
    let last : last_step (p ∷ qs) ≡ Some q = slice_get-get_or (p ∷ qs) n p (omega arith) in
    let whole = whole-last (p ∷ qs) q last in
    subst (AllByRecursion (λ r. r < line)) (sym whole) (below_end (but_last (p ∷ qs)) q line (subst Rises whole rise) (low q last))

not_above : (line q : ℕ) → q < line → nat_le line q ≡ false
not_above line q low = grind (arith, nat_tests)

above_is : (line q : ℕ) → line ≤ q → nat_le line q ≡ true
above_is line q high = grind (arith, nat_tests)

pub same_is : (a b : ℕ) → nat_eq a b ≡ true → a ≡ b
same_is a b h = grind (arith, nat_tests)

pub apart_is : (a b : ℕ) → nat_eq a b ≡ false → a ≡ b → ⊥
apart_is a b h is = grind (arith, nat_tests)

below_stay : (line : ℕ) (qs : List ℕ) → AllByRecursion (λ q. q < line) qs → filter (λ q. not (nat_le line q)) qs ≡ qs
below_stay line [] all = refl
below_stay line (q ∷ qs) all =
    ap (λ b. cond (not b) (q ∷ filter (λ r. not (nat_le line r)) qs) (filter (λ r. not (nat_le line r)) qs)) (not_above line q all.0)
    ∙ ap (λ rs. q ∷ rs) (below_stay line qs all.1)

above_go : (line : ℕ) (qs : List ℕ) → AllByRecursion (λ q. line ≤ q) qs → filter (λ q. not (nat_le line q)) qs ≡ []
above_go line [] all = refl
above_go line (q ∷ qs) all =
    ap (λ b. cond (not b) (q ∷ filter (λ r. not (nat_le line r)) qs) (filter (λ r. not (nat_le line r)) qs)) (above_is line q all.0)
    ∙ above_go line qs all.1

-- what is below the line is no step from it on, and what isn't is one
none_below : (line q : ℕ) (qs : List ℕ) → AllByRecursion (λ r. r < line) qs → (is_listed q qs && nat_le line q) ≡ false
none_below line q [] all = refl
none_below line q (r ∷ qs) all =
    elim (nat_eq q r) as (λ b. nat_eq q r ≡ b → ((b || is_listed q qs) && nat_le line q) ≡ false) [
      | true ↦ λ here. ap (nat_le line) (same_is q r here) ∙ not_above line r all.0
      | false ↦ λ other. none_below line q qs all.1
    ] refl

all_above : (line q : ℕ) (qs : List ℕ) → AllByRecursion (λ r. line ≤ r) qs → (is_listed q qs && nat_le line q) ≡ is_listed q qs
all_above line q [] all = refl
all_above line q (r ∷ qs) all =
    elim (nat_eq q r) as (λ b. nat_eq q r ≡ b → ((b || is_listed q qs) && nat_le line q) ≡ (b || is_listed q qs)) [
      | true ↦ λ here. ap (nat_le line) (same_is q r here) ∙ above_is line r all.0
      | false ↦ λ other. all_above line q qs all.1
    ] refl

one_part : (a b c : Bool) → (a && c) ≡ false → (b && c) ≡ b → ((a || b) && c) ≡ b
one_part true true c none all = cc
one_part true false c none all = none
one_part false b c none all = all

listed-append : (q : ℕ) (xs ys : List ℕ) → is_listed q (xs ++ ys) ≡ (is_listed q xs || is_listed q ys)
listed-append q xs ys = list_any-append (nat_eq q) xs ys

row_inside : (rows : List (List ℕ)) (t q : ℕ) → last_step (slice_index_or rows t []) ≡ Some q → t < length rows
row_inside [] t q last = absurd (cc last)
row_inside (r ∷ rows) zero q last = omega arith
row_inside (r ∷ rows) (suc t) q last = let inside = row_inside rows t q last in omega arith

-- nothing is taken out yet
pub taken_none : (own : Seen) (t line : ℕ) (lost : List Seq) → steps_of own t ≡ steps_of own t ++ [] → IsTakenSoFar own own t line lost lost
taken_none own t line lost whole = record { taken = []; whole = whole; above = tt; others = λ u _. refl; lost = λ q. refl }

module _ (old mid new : Seen) (t line : ℕ) (first before after : List Seq) (so : IsTakenSoFar old mid t line first before) (one : IsTaken mid new t line before after) where
  inside : t < length mid.steps
  inside = row_inside mid.steps t one.step one.last

  here : steps_of new t ≡ but_last (steps_of mid t)
  here = ap (λ rows. slice_index_or rows t []) one.steps ∙ get_or-set_same mid.steps t (but_last (steps_of mid t)) [] inside

  -- one more step is taken out
  pub taken_more : IsTakenSoFar old new t line first after
  taken_more = record {
    taken = one.step ∷ so.taken;
    whole =
        so.whole
        ∙ ap (λ qs. qs ++ so.taken) (whole-last (steps_of mid t) one.step one.last)
        ∙ append_assoc (but_last (steps_of mid t)) (one.step ∷ []) so.taken
        ∙ ap (λ qs. qs ++ one.step ∷ so.taken) (sym here);
    above = (one.high, so.above);
    others = λ u other. ap (λ rows. slice_index_or rows u []) one.steps ∙ get_or-set_other mid.steps t u (but_last (steps_of mid t)) [] (λ is. apart_is t u other (sym is)) ∙ so.others u other;
    lost = λ q.
        ap (is_listed q) one.lost
        ∙ listed-append q (numbers before) (one.step ∷ [])
        ∙ ap (λ b. b || (nat_eq q one.step || false)) (so.lost q)
        ∙ turned (is_listed q so.taken) (is_listed q (numbers first)) (nat_eq q one.step);
  }
    where
      turned : (a b c : Bool) → ((a || b) || (c || false)) ≡ ((c || a) || b)
      turned true b true = refl
      turned true b false = refl
      turned false true true = refl
      turned false true false = refl
      turned false false true = refl
      turned false false false = refl

-- all that isn't below the line was taken out
module _ (old new : Seen) (t line : ℕ) (before after : List Seq) (so : IsTakenSoFar old new t line before after) (rise : Rises (steps_of old t)) (low : (q : ℕ) → last_step (steps_of new t) ≡ Some q → q < line) where
  rises_left : (xs ys : List ℕ) → Rises (xs ++ ys) → Rises xs
  rises_left [] ys up = tt
  rises_left (x ∷ xs) ys up = (all_left xs ys up.0, rises_left xs ys up.1)
    where
      all_left : (us vs : List ℕ) → AllByRecursion (λ p. x ≤ p) (us ++ vs) → AllByRecursion (λ p. x ≤ p) us
      all_left [] vs all = tt
      all_left (u ∷ us) vs all = (all.0, all_left us vs all.1)

  below : AllByRecursion (λ p. p < line) (steps_of new t)
  below = below_all (steps_of new t) line (rises_left (steps_of new t) so.taken (subst Rises so.whole rise)) low

  pub all_taken-own : (u : ℕ) → steps_of new u ≡ cond (nat_eq t u) (filter (λ q. not (nat_le line q)) (steps_of old u)) (steps_of old u)
  all_taken-own u =
      elim (nat_eq t u) as (λ b. nat_eq t u ≡ b → steps_of new u ≡ cond b (filter (λ q. not (nat_le line q)) (steps_of old u)) (steps_of old u)) [
        | true ↦ λ here.
            subst (λ v. steps_of new v ≡ filter (λ q. not (nat_le line q)) (steps_of old v)) (same_is t u here)
            (sym (ap (filter (λ q. not (nat_le line q))) so.whole
            ∙ filter-append (λ q. not (nat_le line q)) (steps_of new t) so.taken
            ∙ ap (λ qs. filter (λ q. not (nat_le line q)) (steps_of new t) ++ qs) (above_go line so.taken so.above)
            ∙ append-nil (filter (λ q. not (nat_le line q)) (steps_of new t))
            ∙ below_stay line (steps_of new t) below))
        | false ↦ λ other. so.others u other
      ] refl

  pub all_taken-lost : (q : ℕ) → is_listed q (numbers after) ≡ ((is_listed q (steps_of old t) && nat_le line q) || is_listed q (numbers before))
  all_taken-lost q =
      so.lost q
      ∙ ap (λ b. b || is_listed q (numbers before)) (sym (ap (λ qs. is_listed q qs && nat_le line q) so.whole
      ∙ ap (λ b. b && nat_le line q) (listed-append q (steps_of new t) so.taken)
      ∙ one_part (is_listed q (steps_of new t)) (is_listed q so.taken) (nat_le line q) (none_below line q (steps_of new t) below) (all_above line q so.taken so.above)))
