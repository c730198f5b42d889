-- The lines of a state that fit together, and what bytes say of them.
use Rattle.std.specs.Prelude.{◌≡◌, ℕ, ◌+◌, ◌-◌, ◌&&◌, Bool, true, false, cond, nat_lt, length, List, [], ◌∷◌, drop, Option, Some, None, Result, Ok, Err, codes, if◌then◌else◌}
use Rattle.std.specs.List.{list_all}
use Rattle.std.specs.Option.{unwrap_or}
use Rattle.text_lines.specs.Lines.{split}
use Rattle.text_lines.specs.Table.{named_in}
use Rattle.stab_code.specs.Program.{ProgramParts}
use Rattle.expression_text.specs.declared.word.Word.{Word}
use Rattle.expression_text.specs.declared.word.Word.TheVariants as w
use Rattle.image_text.specs.declared.fault.LineFault.{LineFault}
use Rattle.image_text.specs.declared.fault.LineFault.TheVariants.{BadLine, BadNumber, BadState}
use Rattle.image_text.specs.Reading.{Words, reading}
use Rattle.image_lines.specs.declared.body.TextFault.{TextFault}
use Rattle.image_lines.specs.declared.body.TextFault.TheVariants.{At, NoEnd}
use Rattle.image_lines.specs.declared.head.Next.{Next}
use Rattle.image_lines.specs.declared.line.Line.{Line}
use Rattle.image_lines.specs.Body.{Body, read_lines}
use Rattle.image_lines.specs.BodyText.{AreLines, body_text}
use Rattle.image_state.specs.Fits.{Bounds, Fit, first_fault}
use Rattle.image_state.specs.Named.{lines_in, named_by}
use Rattle.image_state.specs.Parts.{Parts, parts_from}

-- what lines are tested by: all lines, also those further down, say which channels and references are there
abbrev pub bounds : ProgramParts → Next → List Line → Bounds
bounds p next ls = record { program = p; next = next; known = named_by next.cut ls }

-- each line is right, none is the last one of a text, and they fit together
pub record AreOfState (p : ProgramParts) (next : Next) (ls : List Line) : Type 0 where
  pub right : AreLines ls
  pub fit : Fit (bounds p next ls) None ls

-- the bytes are the text of such lines, and the parts are what they say
pub record IsStateOf (p : ProgramParts) (next : Next) (bytes : List ℕ) (parts : Parts) : Type 0 where
  pub lines : List Line
  pub bytes_are : bytes ≡ body_text lines
  pub are_state : AreOfState p next lines
  pub parts_are : parts ≡ parts_from lines

-- the function or the text of a word is the program's
abbrev pub is_word_of : ProgramParts → Word → Bool
is_word_of p (w.Text t) = nat_lt t.0 (length p.texts)
is_word_of p (w.Call f n) = nat_lt f.0 (length p.functions)
is_word_of p (w.Spawn f n) = nat_lt f.0 (length p.functions)
is_word_of p (w.Stable f n) = nat_lt f.0 (length p.functions)
is_word_of p v = true

abbrev pub are_words_of : ProgramParts → Option Words → Bool
are_words_of p None = true
are_words_of p (Some r) = list_all (is_word_of p) r.words

-- how many numbers stand before the words of a line
abbrev pub numbers_before : List ℕ → ℕ
numbers_before name = unwrap_or (named_in ((codes "ref", 1) ∷ (codes "thread", 2) ∷ []) name) 0

abbrev pub words_behind : List (List ℕ) → List (List ℕ)
words_behind [] = []
words_behind (name ∷ ps) = drop (numbers_before name) ps

-- numbers are tested before the state, also where an expression is too deep or a pair too large
abbrev pub refined : ProgramParts → List (List ℕ) → LineFault → LineFault
refined p ps BadState = if are_words_of p (reading (words_behind ps)) then BadState else BadNumber
refined p ps k = k

abbrev pub first_piece : List (List ℕ) → List ℕ
first_piece [] = []
first_piece (p ∷ ps) = p

abbrev pub line_at : ℕ → List ℕ → ℕ → List ℕ
line_at start bytes at = first_piece (split 10 (drop (at - start) bytes))

abbrev pub refined_at : ProgramParts → ℕ → List ℕ → TextFault → TextFault
refined_at p start bytes (At k at) = At (refined p (split 32 (line_at start bytes at)) k) at
refined_at p start bytes NoEnd = NoEnd

-- the first line that doesn't fit, and else the first that isn't right by itself
abbrev pub by_faults : ProgramParts → ℕ → List ℕ → Option TextFault → Option TextFault → Parts → Result Parts TextFault
by_faults p start bytes (Some k) other parts = Err k
by_faults p start bytes None (Some k) parts = Err (refined_at p start bytes k)
by_faults p start bytes None None parts = Ok parts

abbrev pub state_by : ProgramParts → Next → ℕ → List ℕ → Body → Result Parts TextFault
state_by p next start bytes b =
    by_faults p start bytes (first_fault (bounds p next (lines_in b.lines)) None b.lines) b.fault (parts_from (lines_in b.lines))

-- what the bytes of a state, of which the first has this place, say
abbrev pub state_in : ProgramParts → Next → ℕ → List ℕ → Result Parts TextFault
state_in p next start bytes = state_by p next start bytes (read_lines start (split 10 bytes))
