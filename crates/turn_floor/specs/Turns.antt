-- What one turn does.
use Rattle.std.specs.Prelude.{◌≡◌, ℕ, List}
use mathlib.Core.List.{IsPrefix}
use Rattle.stab_code.specs.JobParts.{JobParts}
use Rattle.stab_journal.specs.declared.event.Event.{Event}
use Rattle.turn_floor.specs.declared.kept.Told.{Told}
use Rattle.turn_floor.specs.Served.{Adds, Tells}

-- a worker that had seen a history finds a state, and leaves one whose history it has then seen
pub record IsTurn {K : Type 0} (job_of : K → JobParts) (events_of : K → List Event) (job : JobParts) (worker : ℕ) (seen : List Event) (t : Told) (seen' : List Event) (before after : K) : Type 0 where
  pub job_before : job_of before ≡ job
  pub job_after : job_of after ≡ job
  pub begins : IsPrefix seen (events_of before)
  pub adds : Adds worker (events_of before) seen'
  pub tells : Tells t (events_of before) seen'
  pub ends : events_of after ≡ seen'
