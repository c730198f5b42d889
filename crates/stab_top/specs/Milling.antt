-- What each status says of a run of the mill.
use Rattle.std.specs.Prelude.{◌⊎◌}
use Rattle.stab_code.specs.JobParts.{job_of}
use Rattle.stab_code.specs.Program.{ProgramParts}
use Rattle.stab_text.specs.Text.{IsTextOf}
use Rattle.stab_words.specs.declared.request.MillArgs.{MillArgs}
use Rattle.mill_text.specs.Mill.{mill_script, mill_text}
use Rattle.call_status.specs.declared.status.Status.{Status}
use Rattle.sink_lines.specs.Device.{Rests}
use Rattle.book_runs.specs.Ending.{AsReleased, milled_by}
use Rattle.call_report.specs.Report.{Outcome}
use Rattle.stab_top.specs.Running.{RunEnds}
use Rattle.call_report.specs.Reading.{BytesRefused, program_form}

-- the mill's text of this size was refused and nothing written; or it is a program, which was run with the mill's script
abbrev pub MillEnds : Status → MillArgs → Outcome → Type 0
MillEnds status args o =
    (BytesRefused program_form o.report (mill_text args.size) × Rests o.sink o.sink_after)
    ⊎ ((program : ProgramParts) × IsTextOf (mill_text args.size) program
    × RunEnds (AsReleased (milled_by args.size)) args.workers status (job_of program (mill_script args.size) args.fuel args.quantum) o)
