-- What an act needs, and what its parts leave.
use Rattle.std.specs.Prelude.{◌≡◌, ℕ, ◌+◌, ◌<◌, ◌≤◌, ◌^◌, Bool, cond, not, ◌&&◌, true, false, List, [], ◌∷◌, ◌++◌, length, Option, Some, None, option_map, if◌then◌else◌}
use Rattle.std.specs.FinMap as map
use Rattle.linked_lists.specs.Lists.{without}
use Rattle.stab_code.specs.JobParts.{JobParts, IsWithinLimits}
use Rattle.stab_code.specs.Program.{ProgramParts}
use Rattle.stab_journal.specs.declared.event.Label.{Label}
use Rattle.stab_journal.specs.declared.event.Numbered.{Numbered}
use Rattle.stab_journal.specs.Event.{AreEvents, IsName, weight_of}
use Rattle.stab_journal.specs.Journal.{Journal, survivors}
use Rattle.thread_slots.specs.declared.state.State.{State}
use Rattle.thread_slots.specs.declared.state.State.TheVariants.{Ready, Ended}
use Rattle.thread_slots.specs.Slot.{changed, started, IsSound}
use Rattle.language.specs.Plain.{look_in}
use Rattle.language.specs.Program.{body}
use Rattle.language.specs.Expression.{Expr}
use Rattle.language.specs.Table.{Look, act}
use Rattle.step_eval.specs.declared.act.Act.{Act}
use Rattle.step_eval.specs.declared.act.Act.TheVariants as own
use Rattle.step_eval.specs.Acts.{act_with}
use Rattle.step_eval.specs.Asked.{act_next, operands_of}
use Rattle.step_eval.specs.ControlView.{ControlView, Fits, expr_of}
use Rattle.step_eval.specs.Operands.{HasOperands}
use Rattle.step_eval.specs.Progress.{Advances, ProgressView}
use Rattle.stab_base.specs.declared.numbers.Seq.{Seq}
use Rattle.reach_line.specs.MarkList.{numbers}
use Rattle.commit_book.specs.declared.done.Done.{Done}
use Rattle.commit_book.specs.declared.done.Done.TheVariants.{Taken, Parked, Undone, Stale}
use Rattle.commit_book.specs.declared.done.Outcome.{Outcome}
use Rattle.commit_book.specs.declared.done.Outcome.TheVariants as outcome
use Rattle.commit_book.specs.declared.parts.Parts.{Parts}
use Rattle.commit_book.specs.Book.{BookView, over}
use Rattle.commit_book.specs.Commits.{IsCurrent, IsLate, IsMoved, commit_counted, row_at}
use Rattle.commit_book.specs.Doing.{is_failed}
use Rattle.commit_book.specs.Layout.{IsKept, view_of}
use Rattle.commit_book.specs.Leases.{LeaseView}
use Rattle.commit_book.specs.Limits.{commit_reserve}
use Rattle.commit_book.specs.OwnSteps.{SaysTheSame}
use Rattle.commit_book.specs.Rows.{Row, alone, starts, waits, stays, undoes, events_by, local_of, numbered_from, thread, chan, ref}
use Rattle.commit_book.specs.Undoing.{begun, IsTakenBack, IsToldOf}
use Rattle.stab_journal.specs.declared.event.Label.TheVariants.{NewChan, NewRef, Get, Set, Enter, Cut, Pin, Print, Probe, Attempt}
use Rattle.stab_journal.specs.Generation.{generation}
use Rattle.stab_journal.specs.Script.{probed, script_at}
use Rattle.rendezvous.specs.declared.offer.Offer.{Offer}
use Rattle.rendezvous.specs.declared.offer.Offer.TheVariants as offer

-- the lease is current, and the book isn't over
pub record MayAct (job : JobParts) (parts : Parts) (lease : LeaseView) (progress : ProgressView) : Type 0 where
  pub kept : IsKept job parts
  pub limits : IsWithinLimits job
  pub made : Advances job.program progress.origin progress.steps progress.end
  pub steps : progress.steps ≤ 4294967295
  pub current : IsCurrent parts.slots.threads lease progress.origin
  pub light : weight_of parts.history.events < job.fuel + commit_reserve
  pub few : length parts.history.events ≤ weight_of parts.history.events
  pub ranges : AreEvents 1 parts.history.events

-- the control stands at this act
pub record StandsAt (p : ProgramParts) (c : ControlView) (a : Act) : Type 0 where
  pub look : look_in p (expr_of p c) ≡ act (act_with (body p) (operands_of c) a)
  pub next : act_next c ≡ Some a
  pub operands : HasOperands p (length (operands_of c)) a

-- all is the same but room, and what a rollback reads
pub record AreAsBefore (old new : Parts) : Type 0 where
  pub history : new.history ≡ record old.history { spare = new.history.spare }
  pub threads : new.slots.threads ≡ old.slots.threads
  pub queue : new.slots.queue ≡ old.slots.queue
  pub next : new.slots.next ≡ old.slots.next
  pub offers : new.offers ≡ old.offers
  pub last_cut : new.log.last_cut ≡ old.log.last_cut
  pub references : new.log.references ≡ old.log.references
  pub saved : new.store.controls ≡ old.store.controls
  pub nodes : new.graph.nodes ≡ old.graph.nodes
  pub finals : new.printed.finals ≡ old.printed.finals
  pub recent : new.printed.recent ≡ old.printed.recent
  pub chan : new.next_chan ≡ old.next_chan
  pub ref : new.next_ref ≡ old.next_ref
  pub tallies : new.tallies ≡ old.tallies
  pub read : SaysTheSame old.rollback new.rollback

-- these steps of a worker were pushed
pub record IsLonger (old new : Journal) (worker : ℕ) (ls : List Label) : Type 0 where
  pub events : new.events ≡ old.events ++ events_by worker ls
  pub struck : new.struck ≡ old.struck
  pub survivors : survivors new ≡ survivors old ++ numbered_from (length old.events + 1) ls
  pub spare : new.spare + length ls ≡ old.spare

-- the pure steps and an act can be pushed
pub record MayBegin (history : Journal) (t n : ℕ) : Type 0 where
  pub name : IsName t
  pub steps : n ≤ 4294967295
  pub spare : 2 ≤ history.spare
  pub weight : weight_of history.events + 8589934592 ≤ 2 ^ 64

-- so can the act alone
pub record MayPush (history : Journal) : Type 0 where
  pub spare : 1 ≤ history.spare
  pub weight : weight_of history.events + 4294967296 ≤ 2 ^ 64

-- what a thread is doing that moves
abbrev pub state_for : Bool → State
state_for ended = if ended then Ended else Ready

-- one more where a thread fails that hadn't failed
abbrev pub fails_now : Bool → Bool → ℕ
fails_now before now = cond (now && not before) 1 0

-- the thread t goes on from the control c, or has ended there; before, it stood at another one
pub record HasGoneOn (p : ProgramParts) (old new : Parts) (t : ℕ) (before c : ControlView) : Type 0 where
  pub threads : new.slots.threads
      ≡ changed old.slots.threads t (λ slot. record slot { control = c; state = state_for (over p c) })
  pub queue : new.slots.queue ≡ without t old.slots.queue ++ (if over p c then [] else t ∷ [])
  pub next : new.slots.next ≡ old.slots.next
  pub sound : IsSound new.slots
  pub tallies : new.tallies
      ≡ record old.tallies { faulted = old.tallies.faulted + fails_now (is_failed (expr_of p before)) (is_failed (expr_of p c)) }
  pub rest : new ≡ record old { slots = new.slots; tallies = new.tallies }

-- what the row says was done
abbrev pub IsDone : JobParts → Parts → Parts → LeaseView → ProgressView → Row → Type 0
IsDone job old new lease progress row = IsMoved (view_of job old) (view_of job new) lease.worker lease.thread progress.steps row

-- what became of the thread, by the row, where the run is that after the pure steps
abbrev pub IsOutcomeOf : List Numbered → Row → Outcome → Type 0
IsOutcomeOf run (undoes m) (outcome.Undone u) = IsToldOf run m u.mark u.removed (numbers u.marks.items)
IsOutcomeOf run (undoes m) o = ⊥
IsOutcomeOf run (waits offer) o = o ≡ outcome.Parked
IsOutcomeOf run stays o = o ≡ outcome.Parked
IsOutcomeOf run row o = o ≡ outcome.Taken

abbrev pub IsDoneBy : BookView → BookView → LeaseView → ProgressView → Row → Type 0
IsDoneBy old new lease progress (undoes m) =
    IsTakenBack old new lease.worker lease.thread progress.steps m (begun old lease.thread progress.steps)
IsDoneBy old new lease progress row = IsMoved old new lease.worker lease.thread progress.steps row

pub record IsPerformed (job : JobParts) (old new : Parts) (lease : LeaseView) (progress : ProgressView) (outcome : Outcome)
    : Type 0 where
  pub becomes :
      IsOutcomeOf (begun (view_of job old) lease.thread progress.steps) (row_at (view_of job old) lease progress) outcome
  pub done : IsDoneBy (view_of job old) (view_of job new) lease progress (row_at (view_of job old) lease progress)

-- the thread t goes on from a control that stands for e, or has ended there
pub record HasAnswered (p : ProgramParts) (old new : Parts) (t : ℕ) (e : Expr) : Type 0 where
  pub before : ControlView
  pub control : ControlView
  pub was : option_map (λ slot. slot.control) (map.get old.slots.threads t) ≡ Some before
  pub stands : expr_of p control ≡ e
  pub fits : Fits p control
  pub gone : HasGoneOn p old new t before control

-- no act
abbrev pub stands_at_none : Look Expr → Bool
stands_at_none (act a) = false
stands_at_none _ = true

-- with what a thread waits that stands at an act on channels
abbrev pub offer_of : Act → Option Offer
offer_of (own.Send c) = Some (offer.Send c)
offer_of (own.Recv c) = Some (offer.Recv c)
offer_of (own.Pick c d) = Some (offer.Pick c d)
offer_of _ = None

-- an act after which the thread always goes on
abbrev pub is_simple : Act → Bool
is_simple (own.Send c) = false
is_simple (own.Recv c) = false
is_simple (own.Pick c d) = false
is_simple own.Stabilize = false
is_simple _ = true

-- the row of such an act
abbrev pub row_by : BookView → ℕ → Act → Row
row_by b t (own.Spawn f) = starts b.next.thread
row_by b t own.NewChan = alone (Some (NewChan (thread t) (chan b.next.chan)))
row_by b t own.NewRef = alone (Some (NewRef (thread t) (ref b.next.ref)))
row_by b t (own.Get r) = alone (Some (Get (thread t) r))
row_by b t (own.Set r) = alone (Some (Set (thread t) r))
row_by b t (own.Enter f) = alone (Some (Enter (thread t)))
row_by b t own.Cut = alone (Some (Cut (thread t)))
row_by b t own.Pin = alone (Some (Pin (thread t)))
row_by b t own.Print = alone (Some (Print (thread t)))
row_by b t own.Probe = alone (Some (Probe (thread t) (script_at b.job.script (length (probed b.history.events)))))
row_by b t own.Attempt = alone (Some (Attempt (thread t) (generation t b.history.events)))
row_by b t _ = alone None

-- the number of the event that comes after the pure steps
abbrev pub number_after : Journal → ProgressView → ℕ
number_after history progress = length history.events + length (local_of 0 progress.steps) + 1

-- a thread with this control joined, Ready at the tail of the queue, or Ended
pub record HasJoined (p : ProgramParts) (old new : Parts) (c : ControlView) : Type 0 where
  pub threads : new.slots.threads ≡ map.insert old.slots.threads old.slots.next (started c (over p c))
  pub queue : new.slots.queue ≡ old.slots.queue ++ (if over p c then [] else old.slots.next ∷ [])
  pub next : new.slots.next ≡ old.slots.next + 1
  pub sound : IsSound new.slots
  pub tallies : new.tallies ≡ record old.tallies { faulted = old.tallies.faulted + fails_now false (is_failed (expr_of p c)) }
  pub rest : new ≡ record old { slots = new.slots; tallies = new.tallies }

-- what is answered to a commit that wasn't late
abbrev pub answer_to : Outcome → Seq → ℕ → Done
answer_to outcome.Taken first count = Taken first count
answer_to outcome.Parked first count = Parked first count
answer_to (outcome.Undone u) first count = Undone first count u.mark u.removed u.marks

abbrev pub IsLateAnswer : BookView → BookView → LeaseView → Done → Type 0
IsLateAnswer old new lease (Stale lent now) = IsLate old new lease lent now
IsLateAnswer old new lease done = ⊥

-- the commit is counted
abbrev pub ended_by : BookView → BookView
ended_by b = record b { answered = commit_counted b }
