-- The lines of a state with their places, up to the end or the first fault.
use Rattle.std.specs.Prelude.{ℕ, ◌+◌, Bool, true, false, List, [], ◌∷◌, ◌++◌, length, Option, Some, None, Result, Ok, Err, if◌then◌else◌}
use Rattle.text_lines.specs.Lines.{split}
use Rattle.image_text.specs.declared.fault.LineFault.{LineFault}
use Rattle.image_text.specs.declared.fault.LineFault.TheVariants.{BadLine}
use Rattle.image_lines.specs.declared.body.Body.{Body as Held}
use Rattle.image_lines.specs.declared.body.TextFault.{TextFault}
use Rattle.image_lines.specs.declared.body.TextFault.TheVariants.{At, NoEnd}
use Rattle.image_lines.specs.declared.line.Line.{Line}
use Rattle.image_lines.specs.declared.line.Line.TheVariants.{End}
use Rattle.image_lines.specs.Line.{line_in}

pub record Body : Type 0 where
  pub lines : List (ℕ × Line)
  pub fault : Option TextFault

abbrev pub body_of : Held → Body
body_of b = record { lines = b.lines.items; fault = b.fault }

abbrev pub is_end : Line → Bool
is_end End = true
is_end l = false

-- no lines, and then this
abbrev pub no_lines : Option TextFault → Body
no_lines fault = record { lines = []; fault = fault }

-- these lines and no fault
abbrev pub no_fault : List (ℕ × Line) → Body
no_fault ls = record { lines = ls; fault = None }

-- these lines before others
abbrev pub before : List (ℕ × Line) → Body → Body
before ls b = record { lines = ls ++ b.lines; fault = b.fault }

-- behind the last line nothing may stand
abbrev pub behind_end : ℕ → List (List ℕ) → Option TextFault
behind_end at ([] ∷ []) = None
behind_end at ls = Some (At BadLine at)

-- what comes of a line at `at`, where what follows begins at `next`
abbrev pub follow : Result Line LineFault → ℕ → ℕ → List (List ℕ) → Body → Body
follow (Err k) at next ls others = no_lines (Some (At k at))
follow (Ok l) at next ls others = if is_end l then no_lines (behind_end next ls) else before ((at, l) ∷ []) others

-- the lines from the place `at` on; the last piece is no line, since no line feed ends it
abbrev pub read_lines : ℕ → List (List ℕ) → Body
read_lines at [] = no_lines (Some NoEnd)
read_lines at (text ∷ []) = no_lines (Some NoEnd)
read_lines at (text ∷ next ∷ ls) = follow (line_in (split 32 text)) at (at + length text + 1) (next ∷ ls) (read_lines (at + length text + 1) (next ∷ ls))
