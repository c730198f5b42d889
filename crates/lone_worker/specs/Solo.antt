-- The one journal of one worker.
use Rattle.std.specs.Prelude.{◌≡◌, ◌⊎◌, List, ◌++◌}
use Rattle.stab_code.specs.JobParts.{JobParts}
use Rattle.stab_journal.specs.declared.event.Event.{Event}
use Rattle.commit_book.specs.Book.{BookView, IsAtStart}
use Rattle.lone_worker.specs.declared.worker.RunEnd.{RunEnd}
use Rattle.lone_worker.specs.declared.worker.RunEnd.TheVariants.{Quiet, Spent}
use Rattle.lone_worker.specs.Rounds.{IsPlayed}

-- the list begins with these events
pub record BeginsWith (events first : List Event) : Type 0 where
  pub rest : List Event
  pub is : events ≡ first ++ rest

-- no turn comes any more
abbrev pub IsWhole : RunEnd → Type 0
IsWhole Quiet = Unit {0}
IsWhole Spent = Unit {0}
IsWhole end = ⊥

-- the events of two runs: one list begins with the other, and where one run came to its end, it has all events
pub record AreOfOne (e f : RunEnd) (xs ys : List Event) : Type 0 where
  pub either : BeginsWith xs ys ⊎ BeginsWith ys xs
  pub whole : IsWhole e → BeginsWith xs ys
  pub same : IsWhole e → IsWhole f → (e ≡ f) × (xs ≡ ys)

-- rounds of the job by one worker from the book before its first event, and then a run, have these events and this end
pub record IsSolo (job : JobParts) (end : RunEnd) (events : List Event) : Type 0 where
  pub old : BookView
  pub new : BookView
  pub start : IsAtStart old
  pub of_job : old.job ≡ job
  pub run : IsPlayed end old new
  pub left : new.history.events ≡ events

-- the events of the whole run of the job by one worker
pub record IsWholeSolo (job : JobParts) (events : List Event) : Type 0 where
  pub end : RunEnd
  pub whole : IsWhole end
  pub solo : IsSolo job end events
