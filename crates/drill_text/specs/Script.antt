-- A drill script, and the lines that it is read as.
use Rattle.std.specs.Prelude.{ℕ, List, map}
use Rattle.drill_text.specs.declared.script.Line.{Line}
use Rattle.drill_text.specs.Order.{order_of}
use Rattle.text_lines.specs.Lines.{lines_of}

-- a line: the place of its first byte, and the order that stands in it, if it is one
abbrev pub line_of : ℕ × List ℕ → Line
line_of line = record { at = line.0; order = order_of line.1 }

-- The lines that say something, in order.
abbrev pub script_of : List ℕ → List Line
script_of bytes = map line_of (lines_of bytes)
