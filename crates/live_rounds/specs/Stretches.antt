-- What is done between two rounds, and what is written meanwhile.
use Rattle.std.specs.Prelude.{◌≡◌, ℕ, Bool, List, [], ◌∷◌, ◌++◌, Result, Ok, Err, Option, Some, None}
use Rattle.stab_journal.specs.declared.event.What.TheVariants.{Release}
use Rattle.language.specs.Standing.{event}
use Rattle.commit_book.specs.Book.{BookView, IsShown}
use Rattle.commit_book.specs.Releases.{finals}
use Rattle.book_text.specs.Written.{released_lines}
use Rattle.turn_floor.specs.Served.{Adds}
use Rattle.sink_lines.specs.Device.{Device, Gains, GainsPrefix}
use Rattle.live_rounds.specs.declared.halt.Halt.{Halt}
use Rattle.live_rounds.specs.declared.halt.Halt.TheVariants.{SinkFault, NoMemory, Bad, Failed, TooMany}
use Rattle.live_rounds.specs.Going.{IsOwn}
use Rattle.live_rounds.specs.Numbers.{Heard, IsFed}

-- the lines of what was released since `old` were written
pub record GainsSince (old new : BookView) (sink after : Device (List ℕ)) : Type 0 where
  pub lines : List ℕ
  pub more : released_lines new ≡ released_lines old ++ lines
  pub gains : Gains sink after lines

-- the last event is a release whose lines were cut short; those of all releases before it since `old` were written
pub record IsCutSince (old new : BookView) (sink after : Device (List ℕ)) : Type 0 where
  pub last : BookView
  pub between : Device (List ℕ)
  pub shown : IsShown last
  pub job : new.job ≡ last.job
  pub release : new.history.events ≡ last.history.events ++ event 1 (Release (finals last)) ∷ []
  pub so_far : GainsSince old last sink between
  pub lines : List ℕ
  pub more : released_lines new ≡ released_lines last ++ lines
  pub cut : GainsPrefix between after lines

-- what was written since, up to a halt, if there was one
abbrev pub WroteSince : Option Halt → BookView → BookView → Device (List ℕ) → Device (List ℕ) → Type 0
WroteSince None old new sink after = GainsSince old new sink after
WroteSince (Some SinkFault) old new sink after = IsCutSince old new sink after
WroteSince (Some NoMemory) old new sink after = GainsSince old new sink after
WroteSince (Some (Bad at)) old new sink after = GainsSince old new sink after
WroteSince (Some Failed) old new sink after = GainsSince old new sink after
WroteSince (Some TooMany) old new sink after = GainsSince old new sink after

-- a stretch of a run: the numbers that came, and the lines that were written
pub record IsStretch (halt : Option Halt) (old new : BookView) (before after : Heard) (sink written : Device (List ℕ)) : Type 0 where
  pub fed : IsFed halt old.job new.job before.came after.came
  pub wrote : WroteSince halt old new sink written

-- the history goes on by events of worker 1, and nothing was released
pub record IsGrown (old new : BookView) : Type 0 where
  pub adds : Adds 1 old.history.events new.history.events
  pub lines : released_lines new ≡ released_lines old

-- ---- releases

abbrev pub halted_by : Result Bool Halt → Option Halt
halted_by (Ok released) = None
halted_by (Err halt) = Some halt

-- a text was written, or a prefix of it up to a fault of the sink
abbrev pub PutSays : Result Bool Halt → List ℕ → Device (List ℕ) → Device (List ℕ) → Type 0
PutSays (Ok released) text sink after = Gains sink after text
PutSays (Err halt) text sink after = (halt ≡ SinkFault) × GainsPrefix sink after text

-- what was due was released by worker 1 and its lines were written, if anything was
pub record IsPut (halt : Option Halt) (old new : BookView) (sink after : Device (List ℕ)) : Type 0 where
  pub job : new.job ≡ old.job
  pub adds : Adds 1 old.history.events new.history.events
  pub wrote : WroteSince halt old new sink after
  pub own : IsOwn halt
