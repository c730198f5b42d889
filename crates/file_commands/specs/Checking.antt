-- What a call says of a check.
use Rattle.std.specs.Prelude.{ℕ, List, [], ◌∷◌, ◌++◌, None, codes, decimal, length}
use Rattle.stab_code.specs.Program.{ProgramParts}
use Rattle.call_status.specs.declared.status.Status.{Status}
use Rattle.call_status.specs.declared.status.Status.TheVariants.{Done, NoMemory, SinkFault}
use Rattle.sink_lines.specs.Device.{Gains, GainsPrefix}
use Rattle.call_report.specs.Call.{Call, LastSays, status_of}
use Rattle.call_report.specs.Reading.{program_form}
use Rattle.call_report.specs.Report.{Blames, Outcome, Refuses}

-- the line that `check` writes of a program
abbrev pub checked_line : ProgramParts → List ℕ
checked_line program =
    codes "ok functions "
    ++ (decimal (length program.functions) ++ (codes " texts " ++ (decimal (length program.texts) ++ 10 ∷ [])))

-- What each status says of a program that was to be checked. NoMemory is always allowed; other statuses don't occur.
abbrev pub CheckEnds : Status → ProgramParts → Outcome → Type 0
CheckEnds Done program o = Blames o.report None × Gains o.sink o.sink_after (checked_line program)
CheckEnds SinkFault program o = Blames o.report None × GainsPrefix o.sink o.sink_after (checked_line program)
CheckEnds NoMemory program o = Refuses o None
CheckEnds _ program o = ⊥

-- a check of the program in the file
abbrev pub CheckSays : Call → List ℕ → Type 0
CheckSays c file = LastSays program_form c file (λ program. CheckEnds (status_of c) program c.outcome)
