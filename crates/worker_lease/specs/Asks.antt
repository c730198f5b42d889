-- Which asks fit a job and a worker's number, and what a desk does with them.
use Rattle.std.specs.Prelude.{◌≡◌, ℕ, ◌+◌, ◌<◌, [], ◌++◌, length, Ok, Err, Some, None}
use Rattle.stab_code.specs.JobParts.{JobParts}
use Rattle.stab_journal.specs.Due.{due}
use Rattle.commit_book.specs.Book.{BookView}
use Rattle.commit_book.specs.Commits.{IsCommitted, IsCurrent, IsOver}
use Rattle.commit_book.specs.Leases.{LeaseView}
use Rattle.commit_book.specs.Releases.{IsReleased, due_lines}
use Rattle.commit_book.specs.Turns.{IsTurn, Lends, RestsIfQuiet, choice_of, given_back}
use Rattle.worker_lease.specs.declared.ask.DeskAsk.{DeskAsk}
use Rattle.worker_lease.specs.declared.ask.DeskAsk.TheVariants as ask
use Rattle.worker_lease.specs.declared.ask.DeskAnswer.{DeskAnswer}
use Rattle.worker_lease.specs.declared.ask.DeskAnswer.TheVariants as answer

-- a commit's progress is of the job's program; a release is worker 1's, and its text is empty
abbrev pub AskFits : JobParts → ℕ → DeskAsk → Type 0
AskFits job worker ask.Lease = Unit {0}
AskFits job worker (ask.Commit lease progress) = progress.program ≡ job.program
AskFits job worker (ask.GiveBack lease) = Unit {0}
AskFits job worker (ask.Release text) = (text.items ≡ []) × (worker ≡ 1)

-- whether the answer is one to such an ask, of a state that pauses, if it ever does
abbrev pub IsReplyTo : Type 0 → DeskAsk → DeskAnswer → Type 0
IsReplyTo pauses ask.Lease (answer.Turn turn) = Unit {0}
IsReplyTo pauses ask.Lease answer.Dry = pauses
IsReplyTo pauses ask.Lease answer.Rung = pauses
IsReplyTo pauses (ask.Commit lease progress) (answer.Done done) = Unit {0}
IsReplyTo pauses (ask.Commit lease progress) answer.Kept = pauses
IsReplyTo pauses (ask.GiveBack lease) answer.Given = Unit {0}
IsReplyTo pauses (ask.Release text) (answer.Released lines number) = Unit {0}
IsReplyTo _ _ _ = ⊥

-- the lease under this worker's number
abbrev pub under : ℕ → LeaseView → LeaseView
under worker lease = record lease { worker = worker }

-- what the named call of the book answers and leaves
abbrev pub IsServed : BookView → ℕ → DeskAsk → DeskAnswer → BookView → Type 0
IsServed old worker ask.Lease (answer.Turn (Ok turn)) new = IsTurn old new worker turn × RestsIfQuiet old turn
IsServed old worker ask.Lease (answer.Turn (Err none)) new = (new ≡ old) × Lends (choice_of old)
IsServed old worker (ask.Commit lease progress) (answer.Done (Ok done)) new = IsCommitted old new (under worker lease) progress done
IsServed old worker (ask.Commit lease progress) (answer.Done (Err refused)) new =
    (new ≡ old) × (refused.lease ≡ under worker lease) × (refused.progress ≡ progress)
    × IsCurrent old.threads (under worker lease) progress.origin × (¬ IsOver old)
IsServed old worker (ask.GiveBack lease) answer.Given new = new ≡ given_back old lease
IsServed old worker (ask.Release text) (answer.Released lines (Ok None)) new =
    (due old.history.events ≡ 0) × (new ≡ old) × (lines.items ≡ text.items)
IsServed old worker (ask.Release text) (answer.Released lines (Ok (Some q))) new =
    (0 < due old.history.events) × (q.0 ≡ length old.history.events + 1) × IsReleased old new worker × (lines.items ≡ text.items ++ due_lines old)
IsServed old worker (ask.Release text) (answer.Released lines (Err none)) new =
    (0 < due old.history.events) × (new ≡ old) × (lines.items ≡ text.items)
IsServed _ _ _ _ _ = ⊥

-- each answer is to its ask, and a desk never pauses
pub replied : (old : BookView) (worker : ℕ) (a : DeskAsk) (b : DeskAnswer) (new : BookView) → IsServed old worker a b new → IsReplyTo ⊥ a b
replied old worker ask.Lease (answer.Turn turn) new is = tt
replied old worker ask.Lease (answer.Done done) new is = is
replied old worker ask.Lease answer.Given new is = is
replied old worker ask.Lease (answer.Released lines number) new is = is
replied old worker ask.Lease answer.Dry new is = is
replied old worker ask.Lease answer.Rung new is = is
replied old worker ask.Lease answer.Kept new is = is
replied old worker (ask.Commit lease progress) (answer.Turn turn) new is = is
replied old worker (ask.Commit lease progress) (answer.Done done) new is = tt
replied old worker (ask.Commit lease progress) answer.Given new is = is
replied old worker (ask.Commit lease progress) (answer.Released lines number) new is = is
replied old worker (ask.Commit lease progress) answer.Dry new is = is
replied old worker (ask.Commit lease progress) answer.Rung new is = is
replied old worker (ask.Commit lease progress) answer.Kept new is = is
replied old worker (ask.GiveBack lease) (answer.Turn turn) new is = is
replied old worker (ask.GiveBack lease) (answer.Done done) new is = is
replied old worker (ask.GiveBack lease) answer.Given new is = tt
replied old worker (ask.GiveBack lease) (answer.Released lines number) new is = is
replied old worker (ask.GiveBack lease) answer.Dry new is = is
replied old worker (ask.GiveBack lease) answer.Rung new is = is
replied old worker (ask.GiveBack lease) answer.Kept new is = is
replied old worker (ask.Release text) (answer.Turn turn) new is = is
replied old worker (ask.Release text) (answer.Done done) new is = is
replied old worker (ask.Release text) answer.Given new is = is
replied old worker (ask.Release text) (answer.Released lines number) new is = tt
replied old worker (ask.Release text) answer.Dry new is = is
replied old worker (ask.Release text) answer.Rung new is = is
replied old worker (ask.Release text) answer.Kept new is = is

-- an ask of a worker's round: any but a release
abbrev pub IsWorkAsk : DeskAsk → Type 0
IsWorkAsk (ask.Release text) = ⊥
IsWorkAsk _ = Unit {0}
