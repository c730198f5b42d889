-- What a call says of the types of a program.
use Rattle.std.specs.Prelude.{ℕ, List, [], ◌∷◌, ◌++◌, None, Some, codes, decimal, length}
use Rattle.stab_base.specs.declared.numbers.FnId.{FnId}
use Rattle.stab_code.specs.Program.{ProgramParts}
use Rattle.stab_types.specs.declared.typed.TypeFault.TheVariants as fault
use Rattle.stab_types.specs.Typed.{IsFirstUntyped, IsTyped}
use Rattle.call_status.specs.declared.status.Status.{Status}
use Rattle.call_status.specs.declared.status.Status.TheVariants.{Done, NoMemory, SinkFault, Untyped}
use Rattle.sink_lines.specs.Device.{Gains, GainsPrefix}
use Rattle.call_report.specs.declared.report.Blame.TheVariants as blame
use Rattle.call_report.specs.Call.{Call, LastSays, status_of}
use Rattle.call_report.specs.Reading.{program_form}
use Rattle.call_report.specs.Report.{Blames, Outcome, Refuses}

-- the line that `types` writes of a typed program
abbrev pub typed_line : ProgramParts → List ℕ
typed_line program = codes "typed functions " ++ (decimal (length program.functions) ++ 10 ∷ [])

-- What each status says of a program whose types were to be checked: it is typed, and its line or a prefix of it was written; or
-- its first function that isn't typed is blamed. NoMemory is always allowed; other statuses don't occur.
abbrev pub TypesEnds : Status → ProgramParts → Outcome → Type 0
TypesEnds Done program o = IsTyped program × Blames o.report None × Gains o.sink o.sink_after (typed_line program)
TypesEnds SinkFault program o = IsTyped program × Blames o.report None × GainsPrefix o.sink o.sink_after (typed_line program)
TypesEnds Untyped program o = (f : FnId) × IsFirstUntyped program f × Refuses o (Some (blame.Types (fault.Untyped f)))
TypesEnds NoMemory program o = Refuses o None
TypesEnds _ program o = ⊥

-- a check of the types of the program in the file
abbrev pub TypesSays : Call → List ℕ → Type 0
TypesSays c file = LastSays program_form c file (λ program. TypesEnds (status_of c) program c.outcome)
