-- What stands at numbered places.
use Rattle.std.specs.Prelude.{ℕ, ◌+◌, List, [], ◌∷◌, Option, Some, None}
use Rattle.std.specs.Ordering.{nat_cmp}
use Rattle.std.specs.FinMap as map
use Rattle.std.specs.FinMap.{FinMap}

module _ {X : Type 0} where
  -- what is there, by number, where the first place has n
  abbrev pub by_number : ℕ → List (Option X) → FinMap nat_cmp X
  by_number n [] = map.empty
  by_number n (None ∷ xs) = by_number (n + 1) xs
  by_number n (Some x ∷ xs) = map.insert (by_number (n + 1) xs) n x
