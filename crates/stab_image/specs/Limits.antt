-- How large the numbers of an image may be.
use Rattle.std.specs.Prelude.{ℕ, ◌≤◌}

-- the most probes, events and undos of a thread that an image has
abbrev pub max_number : ℕ
max_number = 4294967295

-- one more than the greatest number of a thread, a channel or a reference, or 1
abbrev pub IsNext : ℕ → Type 0
IsNext n = (1 ≤ n) × (n ≤ 4000000001)
