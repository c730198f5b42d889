-- The limit of a text.
use Rattle.std.specs.Prelude.{ℕ}

-- how many bytes the text of a program has at most, which are 1 MiB
abbrev pub max_text : ℕ
max_text = 1048576
