-- What is found in a list by what its items stand for.
use Rattle.std.proofs.Common.{◌≡◌, ℕ, ◌+◌, Bool, true, false, cond, not, ◌||◌, List, [], ◌∷◌, length, map, Some, None, refl, ap, ◌∙◌}
use Rattle.std.specs.Prelude.{position, nat_lt}
use Rattle.std.specs.List.{list_any, position_or_len}
use Rattle.std.proofs.lemmas.List.{length-map}

module _ {A B : Type 0} (v : A → B) (p : B → Bool) where
  pub any-map : (xs : List A) → list_any p (map v xs) ≡ list_any (λ x. p (v x)) xs
  any-map [] = refl
  any-map (x ∷ xs) = ap (λ b. p (v x) || b) (any-map xs)

  pub position_or_len-map : (xs : List A) → position_or_len p (map v xs) ≡ position_or_len (λ x. p (v x)) xs
  position_or_len-map [] = refl
  position_or_len-map (x ∷ xs) = ap (λ n. cond (not (p (v x))) (1 + n) 0) (position_or_len-map xs)

  pub position-map : (xs : List A) → position p (map v xs) ≡ position (λ x. p (v x)) xs
  position-map xs =
      ap (λ n. cond (nat_lt n (length (map v xs))) (Some n) None) (position_or_len-map xs)
      ∙ ap (λ m. cond (nat_lt (position_or_len (λ x. p (v x)) xs) m) (Some (position_or_len (λ x. p (v x)) xs)) None) (length-map xs v)

found-at : (b : Bool) (n i : ℕ) → cond b (Some n) None ≡ Some i → n ≡ i
found-at true n i e = cc
found-at false n i e = absurd cc

pub position-found : {A : Type 0} (p : A → Bool) (xs : List A) (i : ℕ) → position p xs ≡ Some i → position_or_len p xs ≡ i
position-found p xs i e = found-at (nat_lt (position_or_len p xs) (length xs)) (position_or_len p xs) i e
