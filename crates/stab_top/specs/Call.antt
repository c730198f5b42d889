-- What each status says of a call: of its files, its sink and its report.
use Rattle.std.specs.Prelude.{◌≡◌, ℕ, List, [], Option, Some, None, Result, Ok, Err}
use Rattle.stab_code.specs.JobParts.{job_of}
use Rattle.stab_words.specs.declared.request.Request.{Request}
use Rattle.stab_words.specs.declared.request.Request.TheVariants.{Check, Drill, Mill, Resume, Run, Save, Serve, Trace, Types, Verify, Watch}
use Rattle.stab_words.specs.declared.request.MillArgs.{MillArgs}
use Rattle.stab_words.specs.declared.request.RunArgs.{RunArgs}
use Rattle.stab_words.specs.declared.request.WordFault.{WordFault}
use Rattle.stab_words.specs.Asked.{asked}
use Rattle.stab_words.specs.Command.{most_workers}
use Rattle.turn_floor.specs.Served.{AreOf}
use Rattle.call_status.specs.declared.status.Status.{Status}
use Rattle.call_status.specs.declared.status.Status.TheVariants.{BadWords, NoMemory}
use Rattle.call_report.specs.declared.report.Blame.TheVariants as blame
use Rattle.call_report.specs.Call.{Call, LastSays, NextSays, Untouched, status_of}
use Rattle.call_report.specs.Reading.{probes_form, program_form}
use Rattle.file_commands.specs.Checking.{CheckSays}
use Rattle.file_commands.specs.Drilling.{DrillSays}
use Rattle.file_commands.specs.Judging.{VerifySays}
use Rattle.file_commands.specs.Resuming.{ResumeSays}
use Rattle.file_commands.specs.Saving.{SaveSays}
use Rattle.file_commands.specs.Typing.{TypesSays}
use Rattle.book_runs.specs.Ending.{AsReleased, AtTheEnd, Writing, shown_by}
use Rattle.book_runs.specs.Watching.{watched_by}
use Rattle.stab_top.specs.Milling.{MillEnds}
use Rattle.stab_top.specs.Running.{IfBook, RunEnds}
use Rattle.stab_top.specs.Serving.{ServeSays}

-- what each status says of words with this fault: it is the cause, or memory ran out
abbrev pub FaultSays : Status → Call → WordFault → Type 0
FaultSays BadWords c cause = Untouched c (Some (blame.Words cause))
FaultSays NoMemory c cause = Untouched c None
FaultSays _ c cause = ⊥

-- a run of the program in the file, with the script in the probe file or an empty one; `writes` says what is written of it
abbrev pub RunSaysBy : Writing → Call → RunArgs → Option (List ℕ) → Type 0
RunSaysBy writes c args None =
    LastSays program_form c args.file (λ program.
    RunEnds writes args.workers (status_of c) (job_of program [] args.fuel args.quantum) c.outcome)
RunSaysBy writes c args (Some probes) =
    NextSays program_form c args.file (λ program.
    LastSays probes_form c probes (λ script.
    RunEnds writes args.workers (status_of c) (job_of program script args.fuel args.quantum) c.outcome))

abbrev pub RunSays : Writing → Call → RunArgs → Type 0
RunSays writes c args = RunSaysBy writes c args args.probes

-- a watched run: it says what a run by the most workers says, and each event of its book carries the number of one of its own
abbrev pub WatchSays : Call → RunArgs → Type 0
WatchSays c args =
    RunSays (AsReleased watched_by) c (record args { workers = most_workers })
    × IfBook c.outcome.report.made (λ book. AreOf args.workers book.history.events)

-- the mill, which reads no file: no fault of the files was counted
abbrev pub MillSays : Call → MillArgs → Type 0
MillSays c args = (c.files_after ≡ c.files.faults) × MillEnds (status_of c) args c.outcome

-- what each command says of its call
abbrev pub RequestSays : Call → Request → Type 0
RequestSays c (Run args) = RunSays (AsReleased shown_by) c args
RequestSays c (Trace args) = RunSays AtTheEnd c args
RequestSays c (Mill args) = MillSays c args
RequestSays c (Verify args) = VerifySays c args
RequestSays c (Drill args) = DrillSays c args
RequestSays c (Check file) = CheckSays c file
RequestSays c (Types file) = TypesSays c file
RequestSays c (Watch args) = WatchSays c args
RequestSays c (Serve args) = ServeSays c args
RequestSays c (Save args) = SaveSays c args
RequestSays c (Resume args) = ResumeSays c args

-- what is said of a call, by what its words mean: a fault or a request
abbrev pub WordsSay : Result Request WordFault → Call → Type 0
WordsSay (Err cause) c = FaultSays (status_of c) c cause
WordsSay (Ok request) c = RequestSays c request

-- what a call with these words says by its status
abbrev pub Says : List (List ℕ) → Call → Type 0
Says words c = WordsSay (asked words) c

-- only `serve` takes numbers, and only if it leaves a book
abbrev pub Hears : Result Request WordFault → Call → Type 0
Hears (Ok (Serve args)) c = c.outcome.report.made ≡ None → c.input_after ≡ c.input
Hears meant c = c.input_after ≡ c.input
