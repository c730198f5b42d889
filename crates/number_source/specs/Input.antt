-- What an input is answered as: the number of each line of it that isn't blank, and then its end or the first line that is no number.
use Rattle.std.specs.Prelude.{◌≡◌, ℕ, ◌+◌, ◌-◌, ◌^◌, min, nat_lt, ℤ, List, [], ◌∷◌, ◌++◌, length, Option, Some, None, ◌⊎◌, if◌then◌else◌}
use Rattle.probe_text.specs.Probes.{number_of}
use Rattle.text_lines.specs.Lines.{lines_of, split}
use Rattle.number_source.specs.declared.came.Came.{Came}
use Rattle.number_source.specs.declared.came.Came.TheVariants.{Number, Nothing, End, Bad, Failed}

-- how many bytes a line may have before its line feed: as many as a whole probe file
abbrev pub longest : ℕ
longest = 2 ^ 20

-- the number, or else that the line at this place is none
abbrev pub number_or_bad : ℕ → Option ℤ → Came
number_or_bad at None = Bad at
number_or_bad at (Some n) = Number n

-- what the first line that says something is answered as, by what it says between its blanks
abbrev pub answer_of : ℕ → List (ℕ × List ℕ) → Came
answer_of at [] = Nothing
answer_of at (line ∷ lines) = number_or_bad at (number_of line.1)

-- what the line of these bytes at this place is answered as
abbrev pub line_answer : ℕ → List ℕ → Came
line_answer at line = if nat_lt longest (length line) then Bad at else answer_of at (lines_of line)

-- an answer and those that come after it, of which there are none after a bad line
abbrev pub followed : Came → List Came → List Came
followed (Number n) others = Number n ∷ others
followed Nothing others = others
followed End others = End ∷ []
followed (Bad at) others = Bad at ∷ []
followed Failed others = Failed ∷ []

-- the place behind a line and its line feed; places stop at the greatest u64
abbrev pub behind : ℕ → List ℕ → ℕ
behind at line = min (at + (length line + 1)) (2 ^ 64 - 1)

-- what lines are answered as, the first of which is at this place
abbrev pub answers_from : ℕ → List (List ℕ) → List Came
answers_from at [] = End ∷ []
answers_from at (line ∷ lines) = followed (line_answer at line) (answers_from (behind at line) lines)

-- What an input is answered as.
abbrev pub answers_of : List ℕ → List Came
answers_of bytes = answers_from 0 (split 10 bytes)

-- lines, of the first of which some bytes were read before
abbrev pub begun : List ℕ → List (List ℕ) → List (List ℕ)
begun held [] = held ∷ []
begun held (line ∷ lines) = (held ++ line) ∷ lines

-- a line of which some bytes were read, and the place of its first byte
pub record LinePart : Type 0 where
  pub at : ℕ
  pub held : List ℕ

-- what the rest of an input is answered as, where this part of a line was read before it
abbrev pub answers_on : LinePart → List ℕ → List Came
answers_on part rest = answers_from part.at (begun part.held (split 10 rest))

-- Some of these answers were told, in order, and perhaps then that the input can't be read any further.
pub record IsTold (answers old new : List Came) : Type 0 where
  pub front : List Came
  pub rest : List Came
  pub end : List Came
  pub split : answers ≡ front ++ rest
  pub told : new ≡ old ++ (front ++ end)
  pub last : (end ≡ []) ⊎ (end ≡ Failed ∷ [])
