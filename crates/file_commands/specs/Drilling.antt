-- What each status says of a drill.
use Rattle.std.specs.Prelude.{◌≡◌, ℕ, ℤ, List, ◌++◌, None, Option, Some}
use Rattle.stab_code.specs.JobParts.{JobParts, job_of}
use Rattle.stab_code.specs.Program.{ProgramParts}
use Rattle.stab_journal.specs.declared.event.Numbered.{Numbered}
use Rattle.stab_journal.specs.Script.{FollowsScript}
use Rattle.language.specs.Plain.{PlainState}
use Rattle.language.specs.Shown.{shown}
use Rattle.commit_book.specs.Book.{BookView, ShowsRun}
use Rattle.book_text.specs.Written.{IsShownText}
use Rattle.drill_text.specs.Script.{script_of}
use Rattle.drill_text.specs.declared.fault.DrillFault.{DrillFault}
use Rattle.drill_text.specs.declared.fault.DrillFault.TheVariants as faults
use Rattle.drill_text.specs.declared.script.Line.{Line}
use Rattle.schedule_drill.specs.Drilled.{IsDrilled, IsNew, StopsAt}
use Rattle.schedule_drill.specs.Played.{Stand}
use Rattle.stab_words.specs.declared.request.DrillArgs.{DrillArgs}
use Rattle.call_status.specs.declared.role.Role.TheVariants.{Script}
use Rattle.call_status.specs.declared.status.Status.{Status}
use Rattle.call_status.specs.declared.status.Status.TheVariants.{BadScript, Done, NoMemory, SinkFault}
use Rattle.sink_lines.specs.Device.{Gains, GainsPrefix}
use Rattle.call_report.specs.declared.report.Blame.{Blame}
use Rattle.call_report.specs.declared.report.Blame.TheVariants as blame
use Rattle.call_report.specs.declared.report.Made.TheVariants as made
use Rattle.call_report.specs.Call.{Call, NextSays, ScriptSays, status_of}
use Rattle.call_report.specs.Loading.{FileSays, blamed}
use Rattle.call_report.specs.Reading.{program_form}
use Rattle.call_report.specs.Report.{Leaves, Outcome, Refuses}

-- the drill of the job by the script was played; the report has its book, which shows a run that follows the job's probe script
pub record IsPlayedOut (job : JobParts) (script : List Line) (o : Outcome) : Type 0 where
  pub book : BookView
  pub state : PlainState
  pub lines : List ℕ
  pub drilled : IsDrilled job script lines book
  pub of_job : book.job ≡ job
  pub run : List Numbered
  pub shown : ShowsRun book run state
  pub follows : FollowsScript job.script book.history.events
  pub reported : Leaves o.report (Some (made.Book book))

-- the lines of the drill, and then what its book shows
abbrev pub drill_text : {job : JobParts} {script : List Line} {o : Outcome} → IsPlayedOut job script o → List ℕ
drill_text end = end.lines ++ shown end.book.job.program end.state

-- what each status says of the lines and the book of a drill that was played
abbrev pub WriteEnds : Status → List ℕ → BookView → Outcome → Type 0
WriteEnds Done lines book o =
    Leaves o.report (Some (made.Book book)) × ((shown : List ℕ) × IsShownText book shown × Gains o.sink o.sink_after (lines ++ shown))
WriteEnds SinkFault lines book o =
    Leaves o.report (Some (made.Book book)) × ((shown : List ℕ) × IsShownText book shown × GainsPrefix o.sink o.sink_after (lines ++ shown))
WriteEnds NoMemory lines book o = Refuses o None
WriteEnds _ lines book o = ⊥

-- the status and the cause if a script isn't played: memory ran out, or a line can't be played
abbrev pub unplayed_status : DrillFault → Status
unplayed_status faults.NoMemory = NoMemory
unplayed_status fault = BadScript

abbrev pub unplayed_blame : DrillFault → Option Blame
unplayed_blame faults.NoMemory = None
unplayed_blame fault = Some (blame.Script fault)

-- a line can't be played on a new book of the job; its fault is blamed, and nothing was written
pub record IsStuck (job : JobParts) (script : List Line) (o : Outcome) : Type 0 where
  pub first : Stand
  pub new : IsNew job first
  pub fault : DrillFault
  pub stops : StopsAt first script fault
  pub refuses : Refuses o (Some (blame.Script fault))

-- What each status says of a script that was to be played. NoMemory is always allowed; other statuses don't occur.
abbrev pub PlayEnds : Status → JobParts → List Line → Outcome → Type 0
PlayEnds Done job script o = (end : IsPlayedOut job script o) × Gains o.sink o.sink_after (drill_text end)
PlayEnds SinkFault job script o = (end : IsPlayedOut job script o) × GainsPrefix o.sink o.sink_after (drill_text end)
PlayEnds BadScript job script o = IsStuck job script o
PlayEnds NoMemory job script o = Refuses o None
PlayEnds _ job script o = ⊥

abbrev pub DrillEnds : Status → JobParts → List ℕ → Outcome → Type 0
DrillEnds status job bytes o = PlayEnds status job (script_of bytes) o

-- the file of the drill script was refused, which is blamed; or its bytes were to be played on a new book of the job
abbrev pub OrdersSay : Call → DrillArgs → ProgramParts → List ℤ → Type 0
OrdersSay c args program script =
    FileSays Script (status_of c) c.files args.script c.files_after
    (Refuses c.outcome (blamed (status_of c) Script))
    (λ bytes. DrillEnds (status_of c) (job_of program script args.fuel args.quantum) bytes c.outcome)

-- the program is read first, then the probe script, then the drill script
abbrev pub DrillSays : Call → DrillArgs → Type 0
DrillSays c args =
    NextSays program_form c args.file (λ program. ScriptSays c args.probes (λ script. OrdersSay c args program script))
