-- Counts that stop at the greatest u64.
use Rattle.std.specs.Prelude.{ℕ, ◌+◌, ◌-◌, ◌^◌, ◌<◌, ◌≤◌, min}

-- one more, and never more than the greatest u64
abbrev pub counted : ℕ → ℕ
counted n = min (n + 1) (2 ^ 64 - 1)

-- the count rose, or stood at the greatest u64 already
pub record Rose (old new : ℕ) : Type 0 where
  pub kept : old ≤ new
  pub more : old < 2 ^ 64 - 1 → old < new
