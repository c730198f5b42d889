-- Numbers that rise.
use Rattle.std.specs.Prelude.{ℕ, zero, suc, ◌<◌, Bool, cond, List, [], ◌∷◌}

-- the numbers rise, from above this one
abbrev pub IsRising : {X : Type 0} → ℕ → List (ℕ × X) → Type 0
IsRising n [] = Unit {0}
IsRising n (e ∷ es) = (n < e.0) × IsRising e.0 es

-- of so many numbers from this one on, those that pass the test
abbrev pub those : (ℕ → Bool) → ℕ → ℕ → List ℕ
those has k zero = []
those has k (suc n) = cond (has k) (k ∷ those has (suc k) n) (those has (suc k) n)
