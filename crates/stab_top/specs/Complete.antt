-- The terms of the laws of whole calls.
use Rattle.std.specs.Prelude.{◌≡◌, ℕ, ℤ, ◌<◌, ◌≤◌, List, [], ◌++◌, length, Option, Some, None, ◌⊎◌}
use Rattle.commit_book.specs.Book.{BookView}
use Rattle.drill_text.specs.declared.script.Line.{Line}
use Rattle.lone_worker.specs.Desk.{desk_of}
use Rattle.language.specs.Plain.{PlainState, end_of}
use Rattle.drill_text.specs.declared.fault.DrillFault.{DrillFault}
use Rattle.stab_base.specs.declared.numbers.FnId.{FnId}
use Rattle.stab_code.specs.JobParts.{JobParts}
use Rattle.stab_code.specs.Limits.{max_script}
use Rattle.number_source.specs.declared.came.Came.TheVariants as answers
use Rattle.stab_code.specs.Program.{ProgramParts}
use Rattle.stab_files.specs.Entry.{Entry, contents_of}
use Rattle.stab_journal.specs.Journal.{Journal}
use Rattle.stab_journal.specs.Surviving.{run_of}
use Rattle.stab_types.specs.Typed.{IsFirstUntyped, IsTyped}
use Rattle.stab_words.specs.declared.request.Request.{Request}
use Rattle.stab_words.specs.declared.request.Request.TheVariants.{Check, Drill, Run, Save, Serve, Trace as WritesTrace, Types, Verify, Watch}
use Rattle.trace_verify.specs.declared.verdict.Verdict.{Verdict}
use Rattle.trace_verify.specs.Verdict.{IsOfRun, IsVerdict}
use Rattle.image_commands.specs.Cuts.{cuts_in}
use Rattle.image_commands.specs.Saved.{IsImageOf}
use Rattle.image_laws.specs.Image.{Image}
use Rattle.call_status.specs.declared.status.Status.{Status}
use Rattle.call_status.specs.declared.status.Status.TheVariants.{BadProbes, BadScript, Done, FileFault, Held, NoCut, NoMemory, No, SinkFault, Spent, TooBig, Untyped}
use Rattle.call_status.specs.declared.role.Role.{Role}
use Rattle.call_status.specs.declared.role.Role.TheVariants.{Program, Probes}
use Rattle.call_report.specs.Call.{Call, CountedFault, status_of}
use Rattle.file_commands.specs.Drilling.{IsPlayedOut, IsStuck, drill_text}
use Rattle.call_report.specs.declared.report.Blame.TheVariants as blame
use Rattle.call_report.specs.declared.report.Made.TheVariants as made
use Rattle.sink_lines.specs.Device.{Gains, GainsPrefix}
use Rattle.call_report.specs.Report.{Blames, Leaves, Outcome, Refuses}
use Rattle.book_runs.specs.Ending.{shown_by}
use Rattle.file_commands.specs.Judging.{verdict_status}
use Rattle.file_commands.specs.Resuming.{HasWritten}
use Rattle.call_status.specs.Role.{max_bytes}
use Rattle.call_report.specs.Reading.{Form, probes_form, trace_form}

-- the files say that they hold the bytes under the name, and the bytes are within the limit for their role
pub record IsHeld (role : Role) (c : Call) (name bytes : List ℕ) : Type 0 where
  pub files : List Entry
  pub told : c.files.told ≡ Some files
  pub held : contents_of files name ≡ Some bytes
  pub within : length bytes ≤ max_bytes role

-- the bytes are held as the program that the request names
abbrev pub IsHeldFor : Call → Request → List ℕ → Type 0
IsHeldFor c (Run args) bytes = IsHeld Program c args.file bytes
IsHeldFor c (WritesTrace args) bytes = IsHeld Program c args.file bytes
IsHeldFor c (Verify args) bytes = IsHeld Program c args.file bytes
IsHeldFor c (Drill args) bytes = IsHeld Program c args.file bytes
IsHeldFor c (Check file) bytes = IsHeld Program c file bytes
IsHeldFor c (Types file) bytes = IsHeld Program c file bytes
IsHeldFor c (Watch args) bytes = IsHeld Program c args.file bytes
IsHeldFor c (Save args) bytes = IsHeld Program c args.file bytes
IsHeldFor c (Serve args) bytes = IsHeld Program c args.file bytes
IsHeldFor c _ bytes = ⊥

-- the script is the one in the probe file of this name, or empty if there is no name
abbrev pub IsScriptFor : Call → Option (List ℕ) → List ℤ → Type 0
IsScriptFor c None script = script ≡ []
IsScriptFor c (Some name) script = (bytes : List ℕ) × IsHeld Probes c name bytes × probes_form.IsOf bytes script

-- the run came to its end, or memory ran out
abbrev pub Ran : Status → Type 0
Ran Done = Unit {0}
Ran Held = Unit {0}
Ran Spent = Unit {0}
Ran NoMemory = Unit {0}
Ran _ = ⊥

-- one number more came in the call than a script may have
pub record CameTooMany (c : Call) : Type 0 where
  pub numbers : List ℤ
  pub over : List ℤ
  pub came : c.input_after.came ≡ c.input.came ++ numbers ++ over
  pub full : length numbers ≡ max_script
  pub more : length over ≡ 1

-- the run came to its end, or it was stopped by a line that is no number, a read that failed or too many numbers; or memory ran out
abbrev pub WasServed : Status → Call → Type 0
WasServed Done c = Unit {0}
WasServed Held c = Unit {0}
WasServed Spent c = Unit {0}
WasServed NoMemory c = Unit {0}
WasServed BadProbes c = (at : ℕ) × (c.input_after.last ≡ Some (answers.Bad at))
WasServed FileFault c = c.input_after.last ≡ Some answers.Failed
WasServed TooBig c = CameTooMany c
WasServed _ c = ⊥

-- the line of the program was written, or memory ran out
abbrev pub Checked : Status → Type 0
Checked Done = Unit {0}
Checked NoMemory = Unit {0}
Checked _ = ⊥

-- the program is typed, or one of its functions is the first that isn't, or memory ran out
abbrev pub TypesFound : Status → ProgramParts → Type 0
TypesFound Done program = IsTyped program
TypesFound Untyped program = (f : FnId) × IsFirstUntyped program f
TypesFound NoMemory program = Unit {0}
TypesFound _ program = ⊥

-- the bytes were refused for this fault, or memory ran out
abbrev pub IsRefused : {Content Fault : Type 0} → Form Content Fault → Call → Fault → Type 0
IsRefused form c fault = ((status_of c ≡ form.bad) × Blames c.outcome.report (Some (form.blames fault))) ⊎ (status_of c ≡ NoMemory)

-- the bytes are the trace of a history, and the status is that of its verdict
pub record HasVerdict (c : Call) (program : ProgramParts) (script : List ℤ) (bytes : List ℕ) : Type 0 where
  pub history : Journal
  pub is : trace_form.IsOf bytes history
  pub verdict : Verdict
  pub given : IsVerdict program script history verdict
  pub status : status_of c ≡ verdict_status verdict

-- the trace was judged, or memory ran out
abbrev pub WasJudged : Call → ProgramParts → List ℤ → List ℕ → Type 0
WasJudged c program script bytes = HasVerdict c program script bytes ⊎ (status_of c ≡ NoMemory)

-- the script was played, and the drill's lines and then what its book shows were written
pub record WasPlayed (c : Call) (job : JobParts) (script : List Line) : Type 0 where
  pub status : status_of c ≡ Done
  pub end : IsPlayedOut job script c.outcome
  pub gains : Gains c.outcome.sink c.outcome.sink_after (drill_text end)

-- a line of the script can't be played, and the first such line is blamed
pub record WasStuck (c : Call) (job : JobParts) (script : List Line) : Type 0 where
  pub status : status_of c ≡ BadScript
  pub stuck : IsStuck job script c.outcome

-- the script was played, or a line can't be played, or memory ran out
abbrev pub WasDrilled : Call → JobParts → List Line → Type 0
WasDrilled c job script = WasPlayed c job script ⊎ (WasStuck c job script ⊎ (status_of c ≡ NoMemory))

-- the report's book has the same desk as this book; the text is these lines, and then what the state shows in which the steps of
-- this book end that no undo took back
pub record IsTextOfDrill (c : Call) (lines : List ℕ) (book : BookView) (text : List ℕ) : Type 0 where
  pub last : BookView
  pub reported : Leaves c.outcome.report (Some (made.Book last))
  pub desk : desk_of last ≡ desk_of book
  pub state : PlainState
  pub ends : end_of book.job.program (run_of book.history.events) ≡ Some state
  pub is : text ≡ lines ++ shown_by book state

-- What each status says if a drill has these lines and this book. Memory may run out, or a file may be refused for a counted
-- fault; other statuses don't occur.
abbrev pub ComesTo : Status → Call → List ℕ → BookView → Type 0
ComesTo Done c lines book = (text : List ℕ) × IsTextOfDrill c lines book text × Gains c.outcome.sink c.outcome.sink_after text
ComesTo SinkFault c lines book =
    (text : List ℕ) × IsTextOfDrill c lines book text × GainsPrefix c.outcome.sink c.outcome.sink_after text
ComesTo FileFault c lines book = CountedFault c
ComesTo NoMemory c lines book = Unit {0}
ComesTo _ c lines book = ⊥

-- the same if a script can't be played for this fault: the fault is blamed, and nothing was written
abbrev pub StopsWith : Status → Call → DrillFault → Type 0
StopsWith BadScript c fault = Refuses c.outcome (Some (blame.Script fault))
StopsWith FileFault c fault = CountedFault c
StopsWith NoMemory c fault = Unit {0}
StopsWith _ c fault = ⊥

-- the image at the n-th cut of the trace was written, or it has fewer cuts, or it isn't that of a run; or memory ran out
abbrev pub IsSavedAs : Status → Call → List ℕ → ProgramParts → List ℤ → Journal → ℕ → Type 0
IsSavedAs Done c text program script history n =
    (bytes : List ℕ) × IsImageOf text program script history n bytes × Gains c.outcome.sink c.outcome.sink_after bytes
IsSavedAs NoCut c text program script history n = IsOfRun program script history × (cuts_in history.events < n)
IsSavedAs No c text program script history n = IsOfRun program script history → ⊥
IsSavedAs NoMemory c text program script history n = Unit {0}
IsSavedAs _ c text program script history n = ⊥

-- a run went on from the image, came to its end or used up the fuel, and was written; or memory ran out
abbrev pub HasResumed : Status → Image → ℕ → ℕ → Outcome → Type 0
HasResumed Done image fuel quantum o = HasWritten Done image fuel quantum o
HasResumed Held image fuel quantum o = HasWritten Held image fuel quantum o
HasResumed Spent image fuel quantum o = HasWritten Spent image fuel quantum o
HasResumed NoMemory image fuel quantum o = Unit {0}
HasResumed _ image fuel quantum o = ⊥
