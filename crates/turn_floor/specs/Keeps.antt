-- What a state that lies at home keeps of the start.
use Rattle.std.specs.Prelude.{◌≡◌, ℕ, List}
use Rattle.stab_code.specs.JobParts.{JobParts}
use Rattle.stab_journal.specs.declared.event.Event.{Event}
use Rattle.turn_floor.specs.Counts.{risen}
use Rattle.turn_floor.specs.Start.{Start}
use Rattle.turn_floor.specs.declared.held.Held.{Held}

-- a K, the two ledgers, what it is asked and what it answers
module _ {K C S Ask Answer : Type 0} where
  -- it has the job, and its counts have risen by what all passes were told
  pub record Keeps (job_of : K → JobParts) (commits_of stale_of : K → ℕ) (start : Start) (h : Held K C S Ask Answer) : Type 0 where
    pub job : job_of h.state ≡ start.job
    pub commits : commits_of h.state ≡ risen h.commits.total start.commits
    pub stale : stale_of h.state ≡ risen h.stale.total start.stale

  -- the events of its history
  abbrev pub events_in : (K → List Event) → Held K C S Ask Answer → List Event
  events_in events_of h = events_of h.state
