-- The rounds that one worker makes: in a run of its own, or to play a book on after several workers.
use Rattle.std.specs.Prelude.{◌≡◌, ℕ, zero, suc, ◌+◌, ◌-◌, ◌<◌}
use Rattle.stab_journal.specs.Due.{due}
use Rattle.stab_journal.specs.Event.{weight_of}
use Rattle.commit_book.specs.Book.{BookView}
use Rattle.commit_book.specs.Releases.{IsReleased}
use Rattle.lone_worker.specs.declared.worker.RunEnd.TheVariants as ends
use Rattle.lone_worker.specs.Desk.{IsUnlent}
use Rattle.lone_worker.specs.Running.{EndSays, IsRun}
use Rattle.lone_worker.specs.Turn.{worker}
use Rattle.book_runs.specs.declared.rounds.RoundEnd.{RoundEnd}
use Rattle.book_runs.specs.declared.rounds.RoundEnd.TheVariants.{Released, Quiet, Spent, NoMemory}

-- 1 if there are any, and else 0
abbrev pub one_if_any : ℕ → ℕ
one_if_any zero = 0
one_if_any (suc n) = 1

-- at most this many rounds are left: each uses fuel, except one that only releases what was due before
abbrev pub rounds_left : BookView → ℕ
rounds_left b = (b.job.fuel - weight_of b.history.events) + one_if_any (due b.history.events)

-- what was due is released; or memory ran out, and the book is unchanged
abbrev pub ReleaseSays : RoundEnd → BookView → BookView → Type 0
ReleaseSays Released old new = IsReleased old new worker × (due new.history.events ≡ 0)
ReleaseSays NoMemory old new = new ≡ old
ReleaseSays _ old new = ⊥

-- a run up to where values are due, and their release
pub record IsRound (old new : BookView) : Type 0 where
  pub last : BookView
  pub run : IsRun ends.Due old last
  pub unlent : IsUnlent last
  pub released : IsReleased last new worker

-- a round was made, or the run came to its end, or memory ran out
abbrev pub RoundSays : RoundEnd → BookView → BookView → Type 0
RoundSays Released old new = IsRound old new × (rounds_left new < rounds_left old)
RoundSays Quiet old new = IsRun ends.Quiet old new × EndSays ends.Quiet new
RoundSays Spent old new = IsRun ends.Spent old new × EndSays ends.Spent new
RoundSays NoMemory old new = IsRun ends.NoMemory old new
