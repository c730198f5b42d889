-- The views of passes that are dealt out.
use Rattle.std.proofs.Common.{◌≡◌, ◌≢◌, ℕ, zero, suc, ◌+◌, ◌-◌, ◌<◌, ◌≤◌, List, [], ◌∷◌, ◌++◌, length, map, refl, ap, sym, ◌∙◌, subst, arith}
use Rattle.std.specs.Prelude.{slice_index_or}
use Rattle.turn_floor.specs.Parts.{AreAll, FloorParts, IsPass, PassParts, new_pass}
use Rattle.turn_floor.specs.Plays.{dealer, dealt}
use Rattle.turn_floor.specs.Served.{from_to}
use Rattle.turn_floor.specs.Start.{Start}
use Rattle.turn_floor.specs.Turn.{dealing}
use Rattle.std.proofs.lemmas.List.{map-append}
use Rattle.turn_floor.proofs.Histories.{from_to_end}
use Rattle.turn_floor.proofs.Joins.{last_zero}

pub dealer_is : (start : Start) (n : ℕ) → 1 < n → dealer (dealing start (n - 1)) ≡ dealing start n
dealer_is start n more = let e : n - 1 + 1 ≡ n = omega (arith, more) in ap (dealing start) e

-- worker 1, once all numbers are given out
pub first_pass : (start : Start) (last len : ℕ) → last ≡ start.workers → 1 ≤ start.workers → start.workers ≤ 64 → len ≡ length start.events → IsPass (dealing start last) 1 len
first_pass start last len all some-worker few long = record {
  number_is = refl;
  positive = omega arith;
  within = some-worker;
  few = few;
  idle = refl;
  one_seat = refl;
  last_is = all;
  len_is = sym long;
  own_is = refl;
}

pub next_pass : (start : Start) (n len : ℕ) → 1 < n → n ≤ start.workers → start.workers ≤ 64 → len ≡ length start.events → IsPass (dealt (dealing start (n - 1))) n len
next_pass start n len more within few long = record {
  number_is = omega (arith, more);
  positive = omega (arith, more);
  within = within;
  few = few;
  idle = refl;
  one_seat = refl;
  last_is = sym (last_zero n start.workers (λ one. omega (arith, more, one)));
  len_is = sym long;
  own_is = refl;
}

length-new : (floor : FloorParts) (a n : ℕ) → length (map (new_pass floor) (from_to a n)) ≡ n
length-new floor a zero = refl
length-new floor a (suc n) = ap suc (length-new floor (suc a) n)

new_at : (floor : FloorParts) (a n k : ℕ) (d : PassParts) → k < n → slice_index_or (map (new_pass floor) (from_to a n)) k d ≡ new_pass floor (a + k)
new_at floor a zero k d lt = absurd (omega (arith, lt))
new_at floor a (suc n) zero d lt = let e : a ≡ a + 0 = omega arith in ap (new_pass floor) e
new_at floor a (suc n) (suc k) d lt = let e : suc a + k ≡ a + suc k = omega arith in new_at floor (suc a) n k d (omega (arith, lt)) ∙ ap (new_pass floor) e

-- new passes are all that the floor has
pub all_new : (floor : FloorParts) (n : ℕ) (passes : List PassParts) → passes ≡ map (new_pass floor) (from_to 1 n) → floor.start.workers ≡ n → AreAll floor passes
all_new floor n passes e w = subst (AreAll floor) (sym e) record {
  own = λ k d lt. ap (λ (p : PassParts). p.floor) (new_at floor 1 n k d (omega (arith, lt, length-new floor 1 n)));
  every = length-new floor 1 n ∙ sym w;
  in_order = λ k d lt. let one : 1 + k ≡ k + 1 = omega arith in ap (λ (p : PassParts). p.worker) (new_at floor 1 n k d (omega (arith, lt, length-new floor 1 n))) ∙ one;
}

-- the passes so far, with one more behind them
pub next_new : (floor : FloorParts) (n number m : ℕ) (passes after : List PassParts) (p : PassParts) → passes ≡ map (new_pass floor) (from_to 2 n) → after ≡ passes ++ p ∷ [] → p ≡ new_pass floor number
    → number ≡ 2 + n → suc n ≡ m → after ≡ map (new_pass floor) (from_to 2 m)
next_new floor n number m passes after p so-far put is next more =
    let new : p ≡ new_pass floor (2 + n) = is ∙ ap (new_pass floor) next in
    put
    ∙ (λ i. so-far i ++ new i ∷ [])
    ∙ sym (map-append (new_pass floor) (from_to 2 n) ((2 + n) ∷ []))
    ∙ ap (map (new_pass floor)) (sym (from_to_end 2 n))
    ∙ ap (λ (k : ℕ). map (new_pass floor) (from_to 2 k)) more

-- worker 1's pass comes to the front
pub first_new : (floor : FloorParts) (n m : ℕ) (passes after : List PassParts) (p : PassParts) → passes ≡ map (new_pass floor) (from_to 2 n) → after ≡ p ∷ passes → p ≡ new_pass floor 1 → suc n ≡ m
    → after ≡ map (new_pass floor) (from_to 1 m)
first_new floor n m passes after p others put is more = put ∙ (λ i. is i ∷ others i) ∙ ap (λ (k : ℕ). map (new_pass floor) (from_to 1 k)) more
