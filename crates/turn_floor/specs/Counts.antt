-- Counts that stop at the greatest number of 64 bits.
use Rattle.std.specs.Prelude.{ℕ, zero, suc, ◌+◌, ◌-◌, ◌^◌, Bool, true, false, if◌then◌else◌, min}

-- 1 where it was so, and else 0
abbrev pub once : Bool → ℕ
once so = if so then 1 else 0

-- a count n after it was raised so often: it stays at the greatest number of 64 bits
abbrev pub risen : ℕ → ℕ → ℕ
risen zero n = n
risen (suc k) n = min (risen k n + 1) (2 ^ 64 - 1)
