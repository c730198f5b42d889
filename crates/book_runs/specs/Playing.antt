-- How far a run came if its lines are written as they are released.
use Rattle.std.specs.Prelude.{◌≡◌, ◌⊎◌, ℕ, List, ◌++◌}
use Rattle.stab_code.specs.JobParts.{JobParts}
use Rattle.language.specs.Plain.{PlainState}
use Rattle.commit_book.specs.Book.{BookView, IsShown}
use Rattle.book_text.specs.Written.{IsRestText, released_lines}
use Rattle.lone_worker.specs.declared.worker.RunEnd.{RunEnd}
use Rattle.lone_worker.specs.Rounds.{IsPlayed}
use Rattle.lone_worker.specs.Running.{IsLater}
use Rattle.lone_worker.specs.Solo.{IsWhole, IsWholeSolo}
use Rattle.sink_lines.specs.Device.{Device, Gains, GainsPrefix}
use Rattle.worker_rounds.specs.declared.rounds.Stop.{Stop}
use Rattle.worker_rounds.specs.declared.rounds.Stop.TheVariants as stops
use Rattle.worker_rounds.specs.Releases.{StopSays}
use Rattle.call_status.specs.declared.status.Status.{Status}
use Rattle.call_status.specs.declared.status.Status.TheVariants.{SinkFault}
use Rattle.book_runs.specs.declared.running.LastLine.{LastLine}
use Rattle.book_runs.specs.Ending.{IsRunOf, RestSays}
use Rattle.book_runs.specs.Rounds.{IsRound}
use Rattle.book_runs.specs.Watching.{line_behind}

-- ---- a book that one worker plays on

-- the lines of what was released since `old` were written
pub record GainsSince (old new : BookView) (sink after : Device (List ℕ)) : Type 0 where
  pub lines : List ℕ
  pub more : released_lines new ≡ released_lines old ++ lines
  pub gains : Gains sink after lines

-- the run is over, as the status says: there are no more turns
pub record IsPlayedOut (status : Status) (old new : BookView) : Type 0 where
  pub end : RunEnd
  pub whole : IsWhole end
  pub played : IsPlayed end old new
  pub rest : (shown : IsShown new) → RestSays status new shown.state

-- all lines up to the last release were written, and the lines of the last release were cut short
pub record IsCutShort (old new : BookView) (sink after : Device (List ℕ)) : Type 0 where
  pub last : BookView
  pub between : Device (List ℕ)
  pub shown : IsShown last
  pub later : IsLater last new
  pub round : IsRound last new
  pub so_far : GainsSince old last sink between
  pub lines : List ℕ
  pub more : released_lines new ≡ released_lines last ++ lines
  pub cut : GainsPrefix between after lines

abbrev pub BreakSays : Stop → BookView → BookView → Device (List ℕ) → Device (List ℕ) → Type 0
BreakSays stops.SinkFault old new sink after = IsCutShort old new sink after
BreakSays stops.NoMemory old new sink after = GainsSince old new sink after

-- the play was stopped; for a fault of the sink, too, `end` is NoMemory
pub record IsBroken (stop : Stop) (old new : BookView) (sink after : Device (List ℕ)) : Type 0 where
  pub end : RunEnd
  pub played : IsPlayed end old new
  pub says : BreakSays stop old new sink after

-- ---- a run

-- the job's run is over, as the status says
pub record HasRun (workers : ℕ) (status : Status) (job : JobParts) (book : BookView) : Type 0 where
  pub state : PlainState
  pub run : IsRunOf workers job book state
  pub whole : workers ≡ 1 → IsWholeSolo book.job book.history.events
  pub rest : RestSays status book state

-- the job's run was stopped
pub record HasStopped (workers : ℕ) (stop : Stop) (job : JobParts) (book : BookView) (sink after : Device (List ℕ)) : Type 0 where
  pub state : PlainState
  pub run : IsRunOf workers job book state
  pub says : StopSays stop book state sink after

-- what is left to write of a run that is over
abbrev pub IsTextBehind : LastLine → BookView → List ℕ → Type 0
IsTextBehind last book text = (rest : List ℕ) × IsRestText book rest × (text ≡ rest ++ line_behind last book.history.events)

-- the text was written whole, and the status is `rest`; or a prefix was written up to a fault, and it is SinkFault
abbrev pub WritesOf : Status → Status → List ℕ → Device (List ℕ) → Device (List ℕ) → Type 0
WritesOf rest status text sink after =
    ((status ≡ rest) × Gains sink after text) ⊎ ((status ≡ SinkFault) × GainsPrefix sink after text)
