-- What bytes are read as: first the program, then its script and the next numbers, then the state.
use Rattle.std.specs.Prelude.{◌≡◌, ℕ, ◌-◌, ◌⊎◌, List, length, Result, Ok, Err}
use Rattle.std.specs.FinMap.{from_entries}
use Rattle.stab_code.specs.Program.{ProgramParts}
use Rattle.stab_text.specs.declared.fault.TextFault.{TextFault as ProgramFault}
use Rattle.stab_text.specs.Text.{HasFault, IsTextOf}
use Rattle.image_laws.specs.Image.{Image}
use Rattle.image_text.specs.declared.fault.LineFault.TheVariants as line
use Rattle.image_lines.specs.declared.body.TextFault.{TextFault}
use Rattle.image_lines.specs.declared.body.TextFault.TheVariants.{At}
use Rattle.image_lines.specs.declared.body.TextFault.TheVariants as text
use Rattle.image_lines.specs.Counts.{Counts, counts_in}
use Rattle.image_lines.specs.Opening.{program_in}
use Rattle.image_state.specs.Parts.{Parts}
use Rattle.image_state.specs.Sound.{state_from}
use Rattle.image_state.specs.State.{state_in}
use Rattle.image_text.specs.declared.image_fault.ImageFault.{ImageFault}
use Rattle.image_text.specs.declared.image_fault.ImageFault.TheVariants.{BadLine, BadNumber, BadProgram, BadState, NoEnd}

abbrev pub Answer : Type 0
Answer = Result Image ImageFault

abbrev pub fault_of : TextFault → ImageFault
fault_of (At line.BadLine at) = BadLine at
fault_of (At line.BadNumber at) = BadNumber at
fault_of (At line.BadState at) = BadState at
fault_of text.NoEnd = NoEnd

-- the image with this text and program, these numbers and this state
abbrev pub image_with : List ℕ → ProgramParts → Counts → Parts → Image
image_with text program c q = record {
  text = text;
  program = program;
  script = c.script;
  used = c.used;
  seq = c.next.cut;
  next_thread = c.next.thread;
  next_chan = c.next.chan;
  next_ref = c.next.reference;
  state = state_from q;
  generations = from_entries q.generations;
}

abbrev pub with_state : List ℕ → ProgramParts → Counts → Result Parts TextFault → Answer
with_state text program c (Ok q) = Ok (image_with text program c q)
with_state text program c (Err k) = Err (fault_of k)

abbrev pub state_read : List ℕ → ProgramParts → Counts → Answer
state_read text program c = with_state text program c (state_in program c.next c.at c.rest)

abbrev pub with_counts : List ℕ → ProgramParts → Result Counts TextFault → Answer
with_counts text program (Ok c) = state_read text program c
with_counts text program (Err k) = Err (fault_of k)

abbrev pub counts_read : List ℕ → ProgramParts → ℕ → List ℕ → Answer
counts_read text program at rest = with_counts text program (counts_in at rest)

-- a text is that of a program, or has a fault
pub record OfProgram (text : List ℕ) (at : ℕ) (rest : List ℕ) (r : Answer) : Type 0 where
  pub program : ProgramParts
  pub is_text : IsTextOf text program
  pub is : r ≡ counts_read text program at rest

pub record OfNone (text : List ℕ) (r : Answer) : Type 0 where
  pub fault : ProgramFault
  pub has : HasFault text fault
  pub is : r ≡ Err BadProgram

abbrev pub IsReadBehind : List ℕ → ℕ → List ℕ → Answer → Type 0
IsReadBehind text at rest r = OfProgram text at rest r ⊎ OfNone text r

abbrev pub IsReadFrom : ℕ → Result (List ℕ × List ℕ) TextFault → Answer → Type 0
IsReadFrom count (Ok x) r = IsReadBehind x.0 (count - length x.1) x.1 r
IsReadFrom count (Err k) r = r ≡ Err (fault_of k)

-- what the bytes are read as
abbrev pub IsRead : List ℕ → Answer → Type 0
IsRead bytes r = IsReadFrom (length bytes) (program_in bytes) r
