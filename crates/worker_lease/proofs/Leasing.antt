-- A lease of a desk.
use Rattle.std.proofs.Common.{◌≡◌, ℕ, Option, Some, None, Result, Ok, Err, refl, sym, ap, subst}
use Rattle.std.specs.Prelude.{IsSomeAnd, IfOk, OnErr}
use Rattle.std.specs.FinMap as map
use Rattle.stab_base.specs.declared.numbers.NoMemory.{NoMemory}
use Rattle.thread_slots.specs.Slot.{Slot}
use Rattle.step_eval.specs.ControlView.{ControlView, Fits}
use Rattle.commit_book.specs.declared.turn.Turn.{Turn}
use Rattle.commit_book.specs.declared.turn.Turn.TheVariants.{Work, Idle, Quiet, Spent, Release}
use Rattle.commit_book.specs.Book.{BookView, IsShown}
use Rattle.commit_book.specs.Leases.{LeaseView}
use Rattle.commit_book.specs.Turns.{CanRest, IsLeaseOf, IsTurn, Lends, RestsIfQuiet, SpentIfSo, choice_of}
use Rattle.commit_book.proofs.Threads.Chosen.{release_due}
use Rattle.commit_book.proofs.Lawful.LawfulBooks.{has_run}
use Rattle.worker_lease.specs.declared.ask.DeskAsk.TheVariants as ask
use Rattle.worker_lease.specs.declared.ask.DeskAnswer.TheVariants as answer
use Rattle.worker_lease.specs.Answers.{IsAtRest, TurnFits}
use Rattle.worker_lease.specs.Releases.{AreByOne}
use Rattle.worker_lease.specs.Serving.{IsServing}
use Rattle.worker_lease.proofs.Adding.{adds_none}

-- at Quiet the history stands for a state in which no thread can step
pub at_rest : (b : BookView) → IsShown b → CanRest b → IsAtRest b.job b.history.events
at_rest b shown can = let run = has_run b shown in record { state = run.end; stands = run.stands; quiet = can run.end run.run.ends }

fits_of : (b : BookView) (worker : ℕ) (lease : LeaseView) (control : ControlView) (o : Option (Slot ControlView)) → IsSomeAnd o (IsLeaseOf b worker lease control) → Fits b.job.program control
fits_of b worker lease control (Some slot) is = is.fits
fits_of b worker lease control None is = absurd is

module _ (old new : BookView) (worker : ℕ) (shown : IsShown old) (shown' : IsShown new) (by_one : AreByOne old.history.events) where
  same : (turn : Turn) → IsTurn old new worker turn → RestsIfQuiet old turn → new ≡ old → TurnFits old.job old.history.events turn → IsServing worker ask.Lease (answer.Turn (Ok turn)) old new
  same turn is rests left fits =
      adds_none worker ask.Lease (answer.Turn (Ok turn)) old new (is, rests) refl (ap (λ (b : BookView). b.job) left) (ap (λ (b : BookView). b.history) left) (ap (λ (b : BookView). b.answered) left) shown' by_one
      (subst (λ (b : BookView). TurnFits b.job b.history.events turn) (sym left) fits)

  turned : (turn : Turn) → IsTurn old new worker turn → RestsIfQuiet old turn → SpentIfSo old turn → IsServing worker ask.Lease (answer.Turn (Ok turn)) old new
  turned (Work lease control) is rests spent =
      adds_none worker ask.Lease (answer.Turn (Ok (Work lease control))) old new (is, rests) refl (ap (λ (b : BookView). b.job) is.2) (ap (λ (b : BookView). b.history) is.2) (ap (λ (b : BookView). b.answered) is.2) shown' by_one
      (subst (λ (b : BookView). Fits b.job.program control) (sym is.2) (fits_of old worker lease control (map.get old.threads lease.thread) is.1))
  turned Idle is rests spent = same Idle is rests is.1 tt
  turned Quiet is rests spent = same Quiet is rests is.1 (at_rest old shown rests)
  turned Spent is rests spent = same Spent is rests is.1 spent
  turned Release is rests spent = same Release is rests is.1 (release_due old is.0)

  pub leased : (r : Result Turn NoMemory) → IfOk r (IsTurn old new worker) → IfOk r (RestsIfQuiet old) → IfOk r (SpentIfSo old) → OnErr r (new ≡ old) → OnErr r (Lends (choice_of old)) → IsServing worker ask.Lease (answer.Turn r) old new
  leased (Ok turn) is rests spent left lends = turned turn is rests spent
  leased (Err none) is rests spent left lends =
      adds_none worker ask.Lease (answer.Turn (Err none)) old new (left, lends) refl (ap (λ (b : BookView). b.job) left) (ap (λ (b : BookView). b.history) left) (ap (λ (b : BookView). b.answered) left) shown' by_one tt
