-- A form that was read, and how it is kept in a word.
use Rattle.std.specs.Prelude.{ℕ, ◌+◌, ◌*◌, ◌/◌, ◌%◌, ◌^◌}

-- the first byte of what is written for the form, with the brackets round it, and its depth
pub record Seen : Type 0 where
  pub first : ℕ
  pub depth : ℕ

-- the form that a word says: its first byte in the lower half, and its depth in the upper one
abbrev pub seen_in : ℕ → Seen
seen_in word = record { first = word % 2 ^ 32; depth = word / 2 ^ 32 }

abbrev pub word_of : Seen → ℕ
word_of s = s.first + s.depth * 2 ^ 32
