-- The pieces of a line that are still to be read.
use Rattle.std.specs.Prelude.{ℕ, List, [], Option, Some, None}
use Rattle.text_lines.specs.Lines.{split}

-- the pieces between blanks of what is left, none where nothing is
abbrev pub pieces_left : Option (List ℕ) → List (List ℕ)
pieces_left None = []
pieces_left (Some bytes) = split 32 bytes
