-- The numbers of a state's channels and references.
use Rattle.std.specs.Prelude.{◌≡◌, ◌≤◌, ◌<◌, ℕ, true, false}
use Rattle.std.specs.FinMap as map
use Rattle.std.specs.FinSet as set
use Rattle.language.specs.Steps.{State}

-- each channel is from 1 on and below this number, and no reference is 0
pub record AreBelow {E : Type 0} (next : ℕ) (s : State E) : Type 0 where
  pub channels : (c : ℕ) → set.contains s.channels c ≡ true → (1 ≤ c) × (c < next)
  pub references : map.contains_key s.references 0 ≡ false
