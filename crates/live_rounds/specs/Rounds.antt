-- A round of several workers.
use Rattle.std.specs.Prelude.{◌≡◌, ℕ, List}
use mathlib.Core.List.{IsPrefix}
use Rattle.stab_code.specs.JobParts.{JobParts}
use Rattle.stab_journal.specs.declared.event.Event.{Event}
use Rattle.commit_book.specs.Book.{BookView, IsShown}
use Rattle.turn_floor.specs.Served.{AreOf}
use Rattle.worker_lease.specs.Releases.{AreByOne, own_releases}

-- the job stays, the history goes on by events of these workers, and none of the new ones is a release by worker 1
pub record IsRound (workers : ℕ) (job after_job : JobParts) (old new : List Event) : Type 0 where
  pub of_job : after_job ≡ job
  pub begins : IsPrefix old new
  pub releases : own_releases 1 new ≡ own_releases 1 old
  pub named : AreOf workers new

-- the book shows its history, whose releases are worker 1's and whose events are these workers'
pub record IsOf (workers : ℕ) (b : BookView) : Type 0 where
  pub shown : IsShown b
  pub by_one : AreByOne b.history.events
  pub named : AreOf workers b.history.events
