-- What a live desk answers and leaves.
use Rattle.std.specs.Prelude.{◌≡◌, ◌⊎◌, ℕ, ◌<◌, ◌≤◌, true, [], ◌∷◌, ◌++◌, count_by, length, Ok, Err}
use Rattle.stab_journal.specs.Script.{probed}
use Rattle.thread_slots.specs.declared.state.State.TheVariants.{Leased}
use Rattle.step_eval.specs.Progress.{ProgressView}
use Rattle.commit_book.specs.declared.turn.Turn.{Turn}
use Rattle.commit_book.specs.declared.turn.Turn.TheVariants.{Idle}
use Rattle.commit_book.specs.Book.{BookView}
use Rattle.commit_book.specs.Counts.{in_state}
use Rattle.commit_book.specs.Leases.{LeaseView}
use Rattle.commit_book.specs.Probing.{asks_probe}
use Rattle.commit_book.specs.Turns.{IsTurn, is_held}
use Rattle.turn_floor.specs.Counts.{once, risen}
use Rattle.turn_floor.specs.Served.{Adds, Tells}
use Rattle.worker_lease.specs.declared.ask.DeskAsk.{DeskAsk}
use Rattle.worker_lease.specs.declared.ask.DeskAsk.TheVariants as ask
use Rattle.worker_lease.specs.declared.ask.DeskAnswer.{DeskAnswer}
use Rattle.worker_lease.specs.declared.ask.DeskAnswer.TheVariants as answer
use Rattle.worker_lease.specs.Answers.{AnswerFits}
use Rattle.worker_lease.specs.Asks.{IsServed, under}
use Rattle.worker_lease.specs.Telling.{told}
use Rattle.live_desk.specs.Live.{IsLive, LiveView, live_of}

-- the script has no number left
abbrev pub IsUsedUp : BookView → Type 0
IsUsedUp b = length b.job.script ≤ length (probed b.history.events)

-- the commit of such a progress has to wait: it asks for a number, and none is left
abbrev pub IsShort : BookView → ProgressView → Type 0
IsShort b progress = (asks_probe progress ≡ true) × IsUsedUp b

-- as many of those that wait still have their thread as threads are leased: nobody else has one
abbrev pub AllWait : LiveView → Type 0
AllWait v = count_by (λ w. is_held v.book w.lease) v.waiting ≡ in_state Leased v.book

-- what a lease answers where the book has this turn: Dry where that is Idle and all wait, and else the turn
abbrev pub IsAnswerTo : LiveView → Turn → DeskAnswer → Type 0
IsAnswerTo v turn answer.Dry = (turn ≡ Idle) × AllWait v
IsAnswerTo v turn (answer.Turn (Ok now)) = (now ≡ turn) × (turn ≡ Idle → ¬ AllWait v)
IsAnswerTo v turn _ = ⊥

-- the commit waits behind all others
abbrev pub waits_last : LiveView → LeaseView → ProgressView → LiveView
waits_last v lease progress = live_of v.book (v.waiting ++ record { lease = lease; progress = progress } ∷ [])

-- the book is served as a desk's is, and who waits stays
abbrev pub IsBookServed : LiveView → ℕ → DeskAsk → DeskAnswer → LiveView → Type 0
IsBookServed old worker a b new = IsServed old.book worker a b new.book × (new.waiting ≡ old.waiting)

-- Rung only while somebody waits; Dry where the book says Idle and nobody but those that wait has a thread, and else Idle; a commit that
-- is short waits, or comes back where there is no room for it; all else is the book's
abbrev pub IsLiveServed : LiveView → ℕ → DeskAsk → DeskAnswer → LiveView → Type 0
IsLiveServed old worker ask.Lease answer.Rung new = (new ≡ old) × (0 < length old.waiting)
IsLiveServed old worker ask.Lease answer.Dry new = (new ≡ old) × IsTurn old.book old.book worker Idle × AllWait old
IsLiveServed old worker ask.Lease (answer.Turn (Ok Idle)) new = IsBookServed old worker ask.Lease (answer.Turn (Ok Idle)) new × (¬ AllWait old)
IsLiveServed old worker (ask.Commit lease progress) answer.Kept new = (new ≡ waits_last old lease progress) × IsShort old.book progress
IsLiveServed old worker (ask.Commit lease progress) (answer.Done (Ok done)) new =
    IsBookServed old worker (ask.Commit lease progress) (answer.Done (Ok done)) new × (¬ IsShort old.book progress)
IsLiveServed old worker (ask.Commit lease progress) (answer.Done (Err refused)) new =
    IsBookServed old worker (ask.Commit lease progress) (answer.Done (Err refused)) new
    ⊎ ((new ≡ old) × (refused.lease ≡ under worker lease) × (refused.progress ≡ progress) × IsShort old.book progress)
IsLiveServed old worker a b new = IsBookServed old worker a b new

-- all that a call of a live desk says
pub record IsLiveServing (worker : ℕ) (ask : DeskAsk) (answer : DeskAnswer) (old new : LiveView) : Type 0 where
  pub serves : IsLiveServed old worker ask answer new
  pub job : new.book.job ≡ old.book.job
  pub adds : Adds worker old.book.history.events new.book.history.events
  pub tells : Tells (told answer) old.book.history.events new.book.history.events
  pub commits : new.book.answered.commits ≡ risen (once (told answer).committed) old.book.answered.commits
  pub stale : new.book.answered.stale ≡ risen (once (told answer).stale) old.book.answered.stale
  pub fits : AnswerFits new.book.job new.book.history.events answer
  pub live : IsLive new
