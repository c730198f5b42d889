-- Whether the lines of a state fit together, and the first that doesn't.
use Rattle.std.specs.Prelude.{◌≡◌, ℕ, ◌&&◌, Bool, true, false, cond, length, nat_lt, List, [], ◌∷◌, Option, Some, None}
use Rattle.stab_code.specs.Program.{ProgramParts}
use Rattle.journal_laws.specs.Known.{Known}
use Rattle.image_text.specs.declared.fault.LineFault.{LineFault}
use Rattle.image_text.specs.declared.fault.LineFault.TheVariants.{BadNumber, BadState}
use Rattle.image_lines.specs.declared.body.TextFault.{TextFault}
use Rattle.image_lines.specs.declared.body.TextFault.TheVariants.{At}
use Rattle.image_lines.specs.declared.head.Next.{Next}
use Rattle.image_lines.specs.declared.line.Line.{Line}
use Rattle.image_lines.specs.declared.line.Line.TheVariants.{Chan, Ref, Out, Thread, End}
use Rattle.image_state.specs.Counted.{is_of}
use Rattle.image_state.specs.Order.{follows_last}
use Rattle.image_state.specs.Stands.{thread_stands}
use Rattle.image_state.specs.Values.{has_texts, is_known}

-- what the lines of a state are tested by
pub record Bounds : Type 0 where
  pub program : ProgramParts
  pub next : Next
  pub known : Known

-- each function and each text in a line is the program's
abbrev pub numbers_fit : ProgramParts → Line → Bool
numbers_fit p (Ref r v) = has_texts (length p.texts) v
numbers_fit p (Out v) = has_texts (length p.texts) v
numbers_fit p (Thread t g e) = is_of p e
numbers_fit p l = true

-- its number is below the next one, and its value or expression may stand there
abbrev pub line_fits : Bounds → Line → Bool
line_fits b (Chan c) = nat_lt c.0 b.next.chan
line_fits b (Ref r v) = nat_lt r.0 b.next.reference && is_known b.known v
line_fits b (Out v) = is_known b.known v
line_fits b (Thread t g e) = nat_lt t.0 b.next.thread && thread_stands b.program b.known e
line_fits b End = true

-- what is wrong with a line behind another one: first its numbers, then its state
abbrev pub line_fault : Bounds → Option Line → Line → Option LineFault
line_fault b last l = cond (numbers_fit b.program l) (cond (follows_last last l && line_fits b l) None (Some BadState)) (Some BadNumber)

abbrev pub fault_or : Option LineFault → ℕ → Option TextFault → Option TextFault
fault_or None at others = others
fault_or (Some k) at others = Some (At k at)

-- the fault of the first line that has one
abbrev pub first_fault : Bounds → Option Line → List (ℕ × Line) → Option TextFault
first_fault b last [] = None
first_fault b last (l ∷ ls) = fault_or (line_fault b last l.1) l.0 (first_fault b (Some l.1) ls)

-- the lines fit together, behind the last one before them
abbrev pub Fit : Bounds → Option Line → List Line → Type 0
Fit b last [] = Unit {0}
Fit b last (l ∷ ls) = (line_fault b last l ≡ None) × Fit b (Some l) ls
