-- What a call shows of the program that it runs.
use Rattle.std.specs.Prelude.{◌≡◌, ◌⊎◌, ℕ, ℤ, ◌≤◌, true, List, [], ◌∷◌, ◌++◌, Some}
use Rattle.stab_base.specs.declared.numbers.Seq.{Seq}
use Rattle.stab_base.specs.declared.numbers.ThreadId.{ThreadId}
use Rattle.stab_code.specs.JobParts.{job_of}
use Rattle.stab_code.specs.Program.{ProgramParts}
use Rattle.stab_journal.specs.declared.event.Event.{Event}
use Rattle.stab_journal.specs.declared.event.Numbered.{Numbered}
use Rattle.stab_journal.specs.declared.event.What.TheVariants.{Undo}
use Rattle.stab_journal.specs.Dependence.{Reaches}
use Rattle.stab_journal.specs.Floor.{floor, is_pin}
use Rattle.stab_journal.specs.Journal.{survivors}
use Rattle.stab_journal.specs.Surviving.{run_of}
use Rattle.stab_words.specs.declared.request.Request.{Request}
use Rattle.stab_words.specs.declared.request.Request.TheVariants.{Drill, Mill, Run, Serve, Trace, Watch}
use Rattle.stab_words.specs.declared.request.RunArgs.{RunArgs}
use Rattle.stab_words.specs.declared.request.ServeArgs.{ServeArgs}
use Rattle.language.specs.Plain.{PlainState}
use Rattle.language.specs.Standing.{event}
use Rattle.commit_book.specs.Book.{BookView}
use Rattle.commit_book.specs.Headline.{HasRun, IsGranted, StandsIn}
use Rattle.commit_book.specs.Probing.{IsWithinScript}
use Rattle.call_status.specs.declared.status.Status.{Status}
use Rattle.call_status.specs.declared.status.Status.TheVariants.{Done, Held, Spent}
use Rattle.call_report.specs.Call.{Call, status_of}
use Rattle.call_report.specs.declared.report.Made.TheVariants as made
use Rattle.call_report.specs.Report.{Leaves}
use Rattle.sink_lines.specs.Device.{Gains}
use Rattle.book_runs.specs.Ending.{RestSays, shown_by}
use Rattle.call_report.specs.Reading.{AreGiven, Holds, program_form}

-- The journal without its undone steps is, in order, a run of the plain language from the start state that ends in exactly the
-- book's threads, channels, references and output;
-- each granted stabilize undoes its section's entry and precisely the steps that depend on it;
-- and once a cut or a pin is made, no step that is left before the cut, or on which the pin depends, is undone.
pub record IsOfTheLanguage (book : BookView) : Type 0 where
  pub run : HasRun book
  pub undos : (first after : List Event) (worker : ℕ) (t : ThreadId) (m : Seq)
      → book.history.events ≡ first ++ event worker (Undo t m) ∷ after
      → IsGranted book.job.program first worker t m
  pub cuts : (first after : List Event) → book.history.events ≡ first ++ after → (n : Numbered) → StandsIn (run_of first) n
      → n.seq.0 ≤ floor (run_of first) → StandsIn (survivors book.history) n
  pub pins : (first after : List Event) → book.history.events ≡ first ++ after → (n pin : Numbered) → StandsIn (run_of first) n
      → is_pin pin.label ≡ true → Reaches (run_of first) n.seq.0 pin → StandsIn (survivors book.history) n

-- a request that runs a program, by workers or by a schedule written by hand
abbrev pub AsksForRun : Request → Type 0
AsksForRun (Run args) = Unit {0}
AsksForRun (Trace args) = Unit {0}
AsksForRun (Mill args) = Unit {0}
AsksForRun (Drill args) = Unit {0}
AsksForRun (Watch args) = Unit {0}
AsksForRun (Serve args) = Unit {0}
AsksForRun request = ⊥

-- a status of a run that is over
abbrev pub IsEnd : Status → Type 0
IsEnd Done = Unit {0}
IsEnd Held = Unit {0}
IsEnd Spent = Unit {0}
IsEnd status = ⊥

-- The call ran the program in the file, with the script, the fuel and the quantum that the words name, and reports the book of
-- that run, of which the above is true; the status says how the run ended; and exactly this text of the run was written.
pub record ShowsRunOf (text_by : BookView → PlainState → List ℕ) (c : Call) (args : RunArgs) : Type 0 where
  pub program : ProgramParts
  pub script : List ℤ
  pub given : AreGiven c.files c.files_after args program script
  pub book : BookView
  pub reported : Leaves c.outcome.report (Some (made.Book book))
  pub of_job : book.job ≡ job_of program script args.fuel args.quantum
  pub says : IsOfTheLanguage book
  pub rest : RestSays (status_of c) book says.run.end
  pub written : Gains c.outcome.sink c.outcome.sink_after (text_by book says.run.end)

-- The numbers that came in the call are the script of the book's job, all of them and in order, but for these that are left over. Where
-- a probe came past the script's end, and so got 0, the input had ended.
pub record HasWhatCame (c : Call) (book : BookView) (over : List ℤ) : Type 0 where
  pub numbers : List ℤ
  pub came : c.input_after.came ≡ c.input.came ++ numbers ++ over
  pub script : book.job.script ≡ numbers
  pub zeros : IsWithinScript book ⊎ (c.input_after.ended ≡ true)

-- The call ran the program in the file, with all numbers that came in it as the script, and the fuel and the quantum that the words name,
-- and reports the book of that run, of which the above is true; the status says how the run ended; and exactly what the run shows was
-- written.
pub record ShowsServed (c : Call) (args : ServeArgs) : Type 0 where
  pub program : ProgramParts
  pub given : Holds program_form c.files args.file c.files_after program
  pub book : BookView
  pub reported : Leaves c.outcome.report (Some (made.Book book))
  pub fed : HasWhatCame c book []
  pub of_job : book.job ≡ job_of program fed.numbers args.fuel args.quantum
  pub says : IsOfTheLanguage book
  pub rest : RestSays (status_of c) book says.run.end
  pub written : Gains c.outcome.sink c.outcome.sink_after (shown_by book says.run.end)
