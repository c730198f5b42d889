-- What several workers leave of a state that is served as a desk is.
use Rattle.std.specs.Prelude.{◌≡◌, ℕ, List, Option}
use mathlib.Core.List.{IsPrefix}
use Rattle.stab_code.specs.JobParts.{JobParts}
use Rattle.stab_journal.specs.declared.event.Event.{Event}
use Rattle.stab_journal.specs.Own.{own}
use Rattle.sink_lines.specs.Device.{Device}
use Rattle.turn_floor.specs.Served.{AreOf}
use Rattle.worker_lease.specs.Working.{IsBegun}
use Rattle.worker_rounds.specs.declared.rounds.Stop.{Stop}
use Rattle.worker_rounds.specs.Rounds.{RoundsSay}

-- The job is the same. The history begins with what the first pass has seen, and has no other event of worker 1; each event carries
-- the number of one of the workers. What was released as far as the first pass has seen was written, up to where the run was stopped.
pub record IsLeft (workers : ℕ) (job after_job : JobParts) (events : List Event) (stop : Option Stop) (sink after : Device (List ℕ)) : Type 0 where
  pub of_job : after_job ≡ job
  pub seen : List Event
  pub begun : IsBegun job seen
  pub grows : IsPrefix seen events
  pub mine : own 1 events ≡ own 1 seen
  pub named : AreOf workers events
  pub says : RoundsSay stop job seen sink after
