-- What a floor is given.
use Rattle.std.specs.Prelude.{ℕ, List, [], refl}
use Rattle.std.specs.Coded.{Coded, code_by, coded×, coded_list, coded_ℕ}
use Rattle.stab_code.specs.JobParts.{JobParts}
use Rattle.stab_journal.specs.declared.event.Event.{Event}

-- the job of its state, the events and the two counts that the state has then, and for how many workers it is
pub record Start : Type 0 where
  pub job : JobParts
  pub events : List Event
  pub commits : ℕ
  pub stale : ℕ
  pub workers : ℕ

abbrev pub start_of : JobParts → List Event → ℕ → ℕ → ℕ → Start
start_of job events commits stale workers = record { job = job; events = events; commits = commits; stale = stale; workers = workers }

-- what a view has that is of no floor any more
abbrev pub no_start : Start
no_start = start_of record { program = record { functions = []; nodes = []; texts = []; main = record { 0 = 0 } }; script = []; fuel = 0; quantum = 0 } [] 0 0 0

-- it is stored as the tuple of its parts
abbrev pub start_code : Coded JobParts → Coded Event → Coded Start
start_code job_code event_code =
    code_by (JobParts × (List Event × (ℕ × (ℕ × ℕ)))) (coded× job_code (coded× (coded_list event_code) (coded× coded_ℕ (coded× coded_ℕ coded_ℕ)))) (λ s. (s.job, (s.events, (s.commits, (s.stale, s.workers))))) (λ p. start_of p.0 p.1.0 p.1.1.0 p.1.1.1.0 p.1.1.1.1) (λ _. refl)
