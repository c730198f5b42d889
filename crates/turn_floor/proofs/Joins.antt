-- Passes that are joined, one after another.
use Rattle.std.proofs.Common.{◌≡◌, ◌≢◌, ℕ, suc, ◌+◌, ◌<◌, ◌≤◌, List, [], ◌∷◌, ◌++◌, length, sym, refl, ap, ◌∙◌, subst, arith, ne_eqb, length-append, zero}
use Rattle.std.specs.Prelude.{if◌then◌else◌}
use Rattle.std.specs.List.{All, AllByRecursion}
use mathlib.Core.List.{IsPrefix}
use Rattle.stab_journal.specs.declared.event.Event.{Event}
use Rattle.turn_floor.specs.Joined.{Joined}
use Rattle.turn_floor.specs.Parts.{AreAll, FloorParts, PassParts, last_of}
use Rattle.turn_floor.specs.Plays.{both}
use Rattle.turn_floor.specs.declared.view.View.{View}

module _ {A : Type 0} (P : A → Type 0) where
  pub all_left : (xs ys : List A) → AllByRecursion P (xs ++ ys) → AllByRecursion P xs
  all_left [] ys all = tt
  all_left (x ∷ xs) ys all = (all.0, all_left xs ys all.1)

  pub all_both : (xs ys : List A) → AllByRecursion P xs → AllByRecursion P ys → AllByRecursion P (xs ++ ys)
  all_both [] ys p q = q
  all_both (x ∷ xs) ys p q = (p.0, all_both xs ys p.1 q)

pub none_left : {A : Type 0} (xs : List A) → length xs ≡ 0 → xs ≡ []
none_left [] e = refl
none_left (x ∷ xs) e = absurd (omega (arith, e))

-- worker 1 alone knows a last number
pub last_zero : (w n : ℕ) → w ≢ 1 → last_of w n ≡ 0
last_zero w n ne = ap (λ b. if b then n else 0) (ne_eqb w 1 ne)

pub joined_none : (v : View) → Joined v v []
joined_none v = record { worker = refl; start = refl; own = refl; holds = refl; last = refl; seats = omega arith; covers = λ whole s olds. (s, olds, tt) }

pub joined_one : (v w : View) (p : PassParts) → w.seats ≡ 1 → p.seen ≡ w.seen → Joined v (both v w) (p ∷ [])
joined_one v w p one saw = record {
  worker = refl;
  start = refl;
  own = refl;
  holds = refl;
  last = refl;
  seats = ap (λ (n : ℕ). v.seats + n) one;
  covers = λ whole s olds. (olds.0, all_left (λ (old : List Event). IsPrefix old whole) v.olds w.olds olds.1.1, (subst (λ (l : List Event). IsPrefix l whole) (sym saw) olds.1.0, tt));
}

pub joined_more : (first v w : View) (ps qs : List PassParts) → Joined first v ps → Joined v w qs → Joined first w (qs ++ ps)
joined_more first v w ps qs j k = record {
  worker = k.worker ∙ j.worker;
  start = k.start ∙ j.start;
  own = k.own ∙ j.own;
  holds = k.holds ∙ j.holds;
  last = k.last ∙ j.last;
  seats = omega (arith, j.seats, k.seats, length-append qs ps);
  covers = λ whole s olds. let b = k.covers whole s olds in let a = j.covers whole b.0 b.1 in (a.0, a.1, all_both (λ (p : PassParts). IsPrefix p.seen whole) qs ps b.2 a.2);
}

module _ {A : Type 0} (P : A → Type 0) where
  pub by_recursion : (xs : List A) → All P xs → AllByRecursion P xs
  by_recursion [] all = tt
  by_recursion (x ∷ xs) all = (all 0 x (omega arith), by_recursion xs (λ k d lt. all (suc k) d (omega (arith, lt))))

  pub by_index : (xs : List A) → AllByRecursion P xs → All P xs
  by_index [] all k d lt = absurd (omega (arith, lt))
  by_index (x ∷ xs) all zero d lt = all.0
  by_index (x ∷ xs) all (suc k) d lt = by_index xs all.1 k d (omega (arith, lt))

-- the passes behind the first are of others than worker 1
pub not_first : (floor : FloorParts) (p : PassParts) (ps : List PassParts) → AreAll floor (p ∷ ps) → AllByRecursion (λ (q : PassParts). q.worker ≢ 1) ps
not_first floor p ps all = by_recursion (λ (q : PassParts). q.worker ≢ 1) ps (λ k d lt one. let e = all.in_order (suc k) d (omega (arith, lt)) in omega (arith, e, one))
