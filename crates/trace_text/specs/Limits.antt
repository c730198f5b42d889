-- The limit of a trace.
use Rattle.std.specs.Prelude.{ℕ}

-- how many bytes a trace has at most, which are 64 MiB
abbrev pub max_bytes : ℕ
max_bytes = 67108864
