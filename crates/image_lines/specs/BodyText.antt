-- The text of the lines of a state and the end.
use Rattle.std.specs.Prelude.{◌≡◌, ℕ, ◌+◌, false, List, [], ◌∷◌, ◌++◌, length}
use Rattle.std.specs.List.{AllByRecursion}
use Rattle.image_lines.specs.declared.line.Line.{Line}
use Rattle.image_lines.specs.declared.line.Line.TheVariants.{End}
use Rattle.image_lines.specs.Body.{Body, is_end}
use Rattle.image_lines.specs.LineText.{IsLine, line_text}

-- each line is ended by a line feed
abbrev pub body_text : List Line → List ℕ
body_text [] = line_text End ++ (10 ∷ [])
body_text (l ∷ ls) = line_text l ++ (10 ∷ body_text ls)

-- each line is right, and none is the last one
abbrev pub AreLines : List Line → Type 0
AreLines ls = AllByRecursion (λ (l : Line). IsLine l × (is_end l ≡ false)) ls

-- lines with the places of their first bytes
abbrev pub placed : ℕ → List Line → List (ℕ × Line)
placed at [] = []
placed at (l ∷ ls) = (at, l) ∷ placed (at + length (line_text l) + 1) ls

-- the bytes from this place on are the text of lines, which are those that were read
pub record IsBody (at : ℕ) (bytes : List ℕ) (b : Body) : Type 0 where
  pub lines : List Line
  pub right : AreLines lines
  pub bytes_are : bytes ≡ body_text lines
  pub places : b.lines ≡ placed at lines
