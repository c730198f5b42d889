-- The job of a book stays.
use Rattle.std.proofs.Common.{◌≡◌, Bool, true, false, cond, [], ◌∷◌, ◌++◌, refl, ap, ◌∙◌}
use Rattle.linked_lists.specs.Lists.{without}
use Rattle.thread_slots.specs.declared.state.State.TheVariants.{Ready}
use Rattle.thread_slots.specs.Slot.{changed}
use Rattle.step_eval.specs.Progress.{ProgressView}
use Rattle.commit_book.specs.declared.done.Done.{Done}
use Rattle.commit_book.specs.declared.done.Done.TheVariants.{Taken, Parked, Undone, Stale, Over}
use Rattle.commit_book.specs.Book.{BookView}
use Rattle.commit_book.specs.Commits.{IsCommitted, IsLeftBy, row_at}
use Rattle.commit_book.specs.Leases.{LeaseView}
use Rattle.commit_book.specs.Rows.{Row, alone, starts, meets, waits, stays, undoes}
use Rattle.commit_book.specs.Turns.{given_back, is_held, requeued}

either : (b : Bool) (given kept : BookView) → given.job ≡ kept.job → (cond b given kept).job ≡ kept.job
either true given kept same = same
either false given kept same = refl

pub given_job : (b : BookView) (lease : LeaseView) → (given_back b lease).job ≡ b.job
given_job b lease =
    either (is_held b lease) (requeued b (changed b.threads lease.thread (λ slot. record slot { state = Ready })) (without lease.thread b.queue ++ lease.thread ∷ [])) b refl

module _ (old new : BookView) (lease : LeaseView) (progress : ProgressView) where
  left_job : (row : Row) → IsLeftBy old new lease progress row → new.job ≡ old.job
  left_job (alone l) is = is.0.job
  left_job (starts u) is = is.0.job
  left_job (meets u l) is = is.0.job
  left_job (waits o) is = is.0.job
  left_job stays is = is.0.job
  left_job (undoes m) is = is.0.job

  pub committed_job : (done : Done) → IsCommitted old new lease progress done → new.job ≡ old.job
  committed_job (Stale lent now) is = ap (λ (b : BookView). b.job) is.1.counted_once
  committed_job (Over weight) is = ap (λ (b : BookView). b.job) is.3 ∙ given_job old lease
  committed_job (Taken first count) is = left_job (row_at old lease progress) is.2.left
  committed_job (Parked first count) is = left_job (row_at old lease progress) is.2.left
  committed_job (Undone first count mark removed marks) is = left_job (row_at old lease progress) is.2.left
