-- A run by one worker.
use Rattle.std.specs.Prelude.{◌≡◌, ◌<◌, ◌≤◌, List, ◌++◌}
use Rattle.std.specs.List.{AllByRecursion}
use Rattle.stab_journal.specs.declared.event.Event.{Event}
use Rattle.stab_journal.specs.Due.{due}
use Rattle.stab_journal.specs.Event.{weight_of}
use Rattle.thread_slots.specs.declared.state.State.TheVariants.{Ready}
use Rattle.commit_book.specs.declared.turn.Turn.TheVariants as turn
use Rattle.commit_book.specs.Book.{BookView}
use Rattle.commit_book.specs.Counts.{in_state}
use Rattle.commit_book.specs.Turns.{CanRest, IsTurn}
use Rattle.lone_worker.specs.declared.worker.RunEnd.{RunEnd}
use Rattle.lone_worker.specs.declared.worker.RunEnd.TheVariants.{Quiet, Spent, Due, NoMemory}
use Rattle.lone_worker.specs.Desk.{IsUnlent}
use Rattle.lone_worker.specs.Turn.{IsTurnOf, worker}

-- the job stays, what happened before stays as it was, and what came is the one worker's
pub record IsLater (old new : BookView) : Type 0 where
  pub job : new.job ≡ old.job
  pub added : List Event
  pub events : new.history.events ≡ old.history.events ++ added
  pub by_one : AllByRecursion (λ (e : Event). e.worker ≡ worker) added

-- turns, one after another; after each the book shows its history, and nobody has a lease
pub data AreTurns : BookView → BookView → Type 0 where
  none : {book : BookView} → AreTurns book book
  one_more : {old between new : BookView} → AreTurns old between → IsTurnOf between new → IsUnlent new → AreTurns old new

-- nothing more happened, since memory is wanted
abbrev pub IsStopped : RunEnd → BookView → BookView → Type 0
IsStopped NoMemory last new = new.history ≡ last.history
IsStopped end last new = ⊥

-- no turn comes at the book to which the turns led, or it was stopped there
abbrev pub IsEndOf : RunEnd → BookView → BookView → Type 0
IsEndOf Quiet last new = IsTurn last new worker turn.Quiet
IsEndOf Spent last new = IsTurn last new worker turn.Spent
IsEndOf Due last new = IsTurn last new worker turn.Release
IsEndOf end last new = IsStopped end last new

-- turns as often as one comes, and then an end
pub record IsRun (end : RunEnd) (old new : BookView) : Type 0 where
  pub last : BookView
  pub turns : AreTurns old last
  pub ends : IsEndOf end last new

-- what the end says of the book: Quiet where no thread is ready and none can step, Spent where the fuel is used up and a thread
-- is ready, Due where printed values are due
abbrev pub EndSays : RunEnd → BookView → Type 0
EndSays Quiet b = CanRest b × (in_state Ready b ≡ 0)
EndSays Spent b = (b.job.fuel ≤ weight_of b.history.events) × (0 < in_state Ready b)
EndSays Due b = 0 < due b.history.events
EndSays NoMemory b = Unit {0}
