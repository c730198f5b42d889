-- Which answers fit a job and a history: what they say is true of it.
use Rattle.std.specs.Prelude.{◌≡◌, ◌≤◌, ◌<◌, List, Ok, Err, Some, None}
use Rattle.stab_code.specs.JobParts.{JobParts}
use Rattle.stab_journal.specs.declared.event.Event.{Event}
use Rattle.stab_journal.specs.Due.{due}
use Rattle.stab_journal.specs.Event.{weight_of}
use Rattle.stab_journal.specs.Surviving.{run_of}
use Rattle.language.specs.Plain.{PlainState, language_of}
use Rattle.language.specs.Quiet.{IsQuiet}
use Rattle.language.specs.Standing.{StandsFor}
use Rattle.step_eval.specs.ControlView.{Fits}
use Rattle.commit_book.specs.declared.turn.Turn.{Turn}
use Rattle.commit_book.specs.declared.turn.Turn.TheVariants.{Work, Idle, Quiet, Spent, Release}
use Rattle.commit_book.specs.Book.{BookView, IsShown}
use Rattle.turn_floor.specs.Served.{told_events}
use Rattle.worker_lease.specs.declared.ask.DeskAnswer.{DeskAnswer}
use Rattle.worker_lease.specs.declared.ask.DeskAnswer.TheVariants as answer
use Rattle.worker_lease.specs.Releases.{AreByOne, HasNoRelease, IsReleaseOf}
use Rattle.worker_lease.specs.Telling.{told_done}

-- a book of the job shows this history, whose releases are worker 1's
pub record IsHistoryOf (job : JobParts) (events : List Event) : Type 0 where
  pub book : BookView
  pub shown : IsShown book
  pub of_job : book.job ≡ job
  pub has : book.history.events ≡ events
  pub by_one : AreByOne events

-- the history stands for a state in which no thread can step
pub record IsAtRest (job : JobParts) (events : List Event) : Type 0 where
  pub state : PlainState
  pub stands : StandsFor job.program events (run_of events) state
  pub quiet : IsQuiet (language_of job.program) state

-- a control that is lent fits the program; at Quiet no thread can step, at Spent the fuel is used up, at Release values are due;
-- Idle says nothing
abbrev pub TurnFits : JobParts → List Event → Turn → Type 0
TurnFits job events (Work lease control) = Fits job.program control
TurnFits job events Idle = Unit {0}
TurnFits job events Quiet = IsAtRest job events
TurnFits job events Spent = job.fuel ≤ weight_of events
TurnFits job events Release = 0 < due events

-- what a lease says is true; a commit made no release; what was released is the last event, or nothing was due; a lease that was given
-- back, want of memory, and that a number has to come first, say nothing
abbrev pub Says : JobParts → List Event → DeskAnswer → Type 0
Says job events (answer.Turn (Ok turn)) = TurnFits job events turn
Says job events (answer.Turn (Err none)) = Unit {0}
Says job events (answer.Done (Ok done)) = HasNoRelease (told_events (told_done done) events)
Says job events (answer.Done (Err refused)) = Unit {0}
Says job events answer.Given = Unit {0}
Says job events (answer.Released text (Ok None)) = due events ≡ 0
Says job events (answer.Released text (Ok (Some q))) = IsReleaseOf job events q.0 text.items
Says job events (answer.Released text (Err none)) = Unit {0}
Says job events answer.Dry = Unit {0}
Says job events answer.Rung = Unit {0}
Says job events answer.Kept = Unit {0}

abbrev pub AnswerFits : JobParts → List Event → DeskAnswer → Type 0
AnswerFits job events a = IsHistoryOf job events × Says job events a
