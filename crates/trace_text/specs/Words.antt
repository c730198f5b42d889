-- Words that are still to be read from a line.
use Rattle.std.specs.Prelude.{ℕ, List, [], Option, Some, None}
use Rattle.text_lines.specs.Lines.{split}

-- the pieces of what is left, none where nothing is
abbrev pub pieces_left : ℕ → Option (List ℕ) → List (List ℕ)
pieces_left mark None = []
pieces_left mark (Some bytes) = split mark bytes
