-- One turn of the one worker.
use Rattle.std.specs.Prelude.{◌≡◌, ℕ, ◌+◌, ◌-◌, ◌*◌, ◌<◌, ◌≤◌, Bool, true, false, nat_eq, length, IsSomeAnd}
use Rattle.std.specs.FinMap as map
use Rattle.stab_code.specs.JobParts.{JobParts}
use Rattle.stab_journal.specs.Event.{weight_of}
use Rattle.thread_slots.specs.declared.state.State.TheVariants.{Leased}
use Rattle.thread_slots.specs.Slot.{Slot, is_in}
use Rattle.step_eval.specs.ControlView.{ControlView, Fits, expr_of}
use Rattle.step_eval.specs.Progress.{Advances, ProgressView, Rests}
use Rattle.commit_book.specs.declared.done.Done.{Done}
use Rattle.commit_book.specs.declared.done.Done.TheVariants.{Taken, Parked, Undone}
use Rattle.commit_book.specs.declared.turn.Turn.TheVariants.{Work}
use Rattle.commit_book.specs.Book.{BookView}
use Rattle.commit_book.specs.Commits.{IsCommitted}
use Rattle.commit_book.specs.Doing.{is_over}
use Rattle.commit_book.specs.Leases.{LeaseView}
use Rattle.commit_book.specs.Turns.{IsTurn}

-- the number of the one worker
abbrev pub worker : ℕ
worker = 1

-- the control made as many pure steps as the quantum allows, or as many as it has
pub record IsAdvanced (job : JobParts) (control : ControlView) (progress : ProgressView) : Type 0 where
  pub origin : progress.origin ≡ control
  pub made : Advances job.program progress.origin progress.steps progress.end
  pub within : progress.steps ≤ job.quantum
  pub stops : progress.steps < job.quantum → Rests job.program progress.end

-- whether the commit was made
abbrev pub is_made : Done → Bool
is_made (Taken first count) = true
is_made (Parked first count) = true
is_made (Undone first count mark removed marks) = true
is_made _ = false

-- what was lent made its pure steps, and they were committed with its act
pub record IsWorked (lent new : BookView) (lease : LeaseView) (control : ControlView) : Type 0 where
  pub progress : ProgressView
  pub done : Done
  pub advances : IsAdvanced lent.job control progress
  pub commits : IsCommitted lent new lease progress done
  pub made : is_made done ≡ true

-- one turn: the thread that is ready longest was lent, and worked
pub record IsTurnOf (old new : BookView) : Type 0 where
  pub lent : BookView
  pub lease : LeaseView
  pub control : ControlView
  pub leases : IsTurn old lent worker (Work lease control)
  pub works : IsWorked lent new lease control

-- the thread as it was lent
pub record IsHeldAs (lease : LeaseView) (lent : ControlView) (slot : Slot ControlView) : Type 0 where
  pub generation : slot.generation ≡ lease.generation
  pub control : slot.control ≡ lent
  pub state : slot.state ≡ Leased

-- one thread alone is lent, to the one worker by this lease; it can step, and the fuel isn't used up
pub record IsLentAlone (b : BookView) (lease : LeaseView) (control : ControlView) : Type 0 where
  pub by_one : lease.worker ≡ worker
  pub alone : (u : ℕ) → is_in Leased b.threads u ≡ nat_eq u lease.thread
  pub held : IsSomeAnd (map.get b.threads lease.thread) (IsHeldAs lease control)
  pub fits : Fits b.job.program control
  pub going : is_over (expr_of b.job.program control) ≡ false
  pub light : weight_of b.history.events < b.job.fuel

-- no queue is longer
abbrev pub most_queued : ℕ
most_queued = 4294967296

-- what is left to do: an event weighs, and an undo brings to the queue as many threads as it can hold
abbrev pub left_to_do : BookView → ℕ
left_to_do b = most_queued * (b.job.fuel - weight_of b.history.events) + length b.queue
