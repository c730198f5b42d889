-- All passes of a floor after a round.
use Rattle.std.proofs.Common.{◌≡◌, ℕ, zero, suc, ◌<◌, List, [], ◌∷◌, length, map, refl, sym, ap, ◌∙◌, arith}
use Rattle.std.specs.Prelude.{slice_index_or, slice_set}
use Rattle.std.proofs.lemmas.List.{length-set}
use Rattle.turn_floor.specs.Parts.{AreAll, FloorParts, PassParts}

-- a pass is left with its floor and its number
abbrev pub LeftAs : PassParts → PassParts → Type 0
LeftAs p q = (q.floor ≡ p.floor) × (q.worker ≡ p.worker)

module _ {X : Type 0} (f : X → PassParts) where
  pub length_map : (xs : List X) → length (map f xs) ≡ length xs
  length_map [] = refl
  length_map (x ∷ xs) = ap suc (length_map xs)

  pub at_map : (xs : List X) (i : ℕ) (d : PassParts) (e : X) → i < length xs → slice_index_or (map f xs) i d ≡ f (slice_index_or xs i e)
  at_map [] i d e lt = absurd (omega (arith, lt))
  at_map (x ∷ xs) zero d e lt = refl
  at_map (x ∷ xs) (suc i) d e lt = at_map xs i d e (omega (arith, lt))

  left_at : (xs ys : List X) → length ys ≡ length xs → ((i : ℕ) (d : X) → i < length xs → LeftAs (f (slice_index_or xs i d)) (f (slice_index_or ys i d)))
      → (k : ℕ) (d : PassParts) → k < length xs → LeftAs (slice_index_or (map f xs) k d) (slice_index_or (map f ys) k d)
  left_at [] ys len left k d lt = absurd (omega (arith, lt))
  left_at (x ∷ xs) [] len left k d lt = absurd (omega (arith, len))
  left_at (x ∷ xs) (y ∷ ys) len left zero d lt = left zero x lt
  left_at (x ∷ xs) (y ∷ ys) len left (suc k) d lt = left_at xs ys (omega (arith, len)) (λ i e l. left (suc i) e (omega (arith, l))) k d (omega (arith, lt))

  pub all_left : (floor : FloorParts) (xs ys : List X) → length ys ≡ length xs → ((i : ℕ) (d : X) → i < length xs → LeftAs (f (slice_index_or xs i d)) (f (slice_index_or ys i d)))
      → AreAll floor (map f xs) → AreAll floor (map f ys)
  all_left floor xs ys len left all =
      let here : length (map f xs) ≡ length xs = length_map xs in
      let there : length (map f ys) ≡ length ys = length_map ys in
      let every = all.every in
      record {
        own = λ k d lt. (left_at xs ys len left k d (omega (arith, lt, there, len))).0 ∙ all.own k d (omega (arith, lt, here, there, len));
        every = there ∙ len ∙ sym here ∙ all.every;
        in_order = λ k d lt. (left_at xs ys len left k d (omega (arith, lt, there, len))).1 ∙ all.in_order k d (omega (arith, lt, here, there, len));
      }

  -- one of the cells is changed
  set_left : (xs : List X) (i : ℕ) (y : X) → ((d : X) → LeftAs (f (slice_index_or xs i d)) (f y)) → (k : ℕ) (e : X) → k < length xs → LeftAs (f (slice_index_or xs k e)) (f (slice_index_or (slice_set xs i y) k e))
  set_left [] i y left k e lt = absurd (omega (arith, lt))
  set_left (x ∷ xs) zero y left zero e lt = left e
  set_left (x ∷ xs) zero y left (suc k) e lt = (refl, refl)
  set_left (x ∷ xs) (suc i) y left zero e lt = (refl, refl)
  set_left (x ∷ xs) (suc i) y left (suc k) e lt = set_left xs i y left k e (omega (arith, lt))

  pub all_set : (floor : FloorParts) (xs : List X) (i : ℕ) (y : X) → ((d : X) → LeftAs (f (slice_index_or xs i d)) (f y)) → AreAll floor (map f xs) → AreAll floor (map f (slice_set xs i y))
  all_set floor xs i y left all = all_left floor xs (slice_set xs i y) (length-set xs i y) (λ k e lt. set_left xs i y left k e lt) all
