-- What is performed where a thread has an offer.
use Rattle.std.proofs.Common.{◌≡◌, Bool, true, false, cond, List, Some, None, refl, sym, subst}
use Rattle.std.specs.Prelude.{is_some}
use Rattle.std.specs.FinMap as map
use Rattle.stab_code.specs.JobParts.{JobParts}
use Rattle.stab_journal.specs.declared.event.Numbered.{Numbered}
use Rattle.rendezvous.specs.declared.offer.Offer.{Offer}
use Rattle.step_eval.specs.Progress.{ProgressView}
use Rattle.commit_book.specs.declared.done.Outcome.TheVariants.{Parked, Taken}
use Rattle.commit_book.specs.declared.exchange.Meeting.{Meeting}
use Rattle.commit_book.specs.declared.parts.Parts.{Parts}
use Rattle.commit_book.specs.Acting.{IsDone, IsDoneBy, IsOutcomeOf, IsPerformed}
use Rattle.commit_book.specs.Book.{offered}
use Rattle.commit_book.specs.Commits.{row_at}
use Rattle.commit_book.specs.Layout.{view_of}
use Rattle.commit_book.specs.Leases.{LeaseView}
use Rattle.commit_book.specs.Meetings.{meeting_of, row_for}
use Rattle.commit_book.specs.Rows.{Row, stays, stays_or_waits, waits}
use Rattle.commit_book.specs.Undoing.{begun}
use Rattle.commit_book.proofs.Acting.RowsMet.{row_meets, row_waits}

parks : (run : List Numbered) (b : Bool) (o : Offer) → IsOutcomeOf run (cond b stays (waits o)) Parked
parks run true o = refl
parks run false o = refl

module _ (job : JobParts) (old new : Parts) (lease : LeaseView) (progress : ProgressView) where
  done_by_waiting : (b : Bool) (o : Offer) → IsDone job old new lease progress (cond b stays (waits o)) → IsDoneBy (view_of job old) (view_of job new) lease progress (cond b stays (waits o))
  done_by_waiting true o done = done
  done_by_waiting false o done = done

  module _ (offer : Offer) (offering_now : offered job.program progress.end ≡ Some offer) where
    -- it met another one
    pub performed_meeting : (m : Meeting) → meeting_of old.offers.lines lease.thread offer ≡ Some m → IsDone job old new lease progress (row_for lease.thread m) → IsPerformed job old new lease progress Taken
    performed_meeting m is done =
        let row : row_at (view_of job old) lease progress ≡ row_for lease.thread m = row_meets (view_of job old) lease progress offer offering_now m is in
        record {
          becomes = subst (λ (k : Row). IsOutcomeOf (begun (view_of job old) lease.thread progress.steps) k Taken) (sym row) refl;
          done = subst (IsDoneBy (view_of job old) (view_of job new) lease progress) (sym row) done;
        }

    -- or it waits
    pub performed_waiting : meeting_of old.offers.lines lease.thread offer ≡ None → IsDone job old new lease progress (stays_or_waits (view_of job old) lease.thread offer) → IsPerformed job old new lease progress Parked
    performed_waiting is done =
        let row : row_at (view_of job old) lease progress ≡ stays_or_waits (view_of job old) lease.thread offer = row_waits (view_of job old) lease progress offer offering_now is in
        let waits_now : Bool = is_some (map.get old.offers.offers lease.thread) in
        record {
          becomes = subst (λ (k : Row). IsOutcomeOf (begun (view_of job old) lease.thread progress.steps) k Parked) (sym row) (parks (begun (view_of job old) lease.thread progress.steps) waits_now offer);
          done = subst (IsDoneBy (view_of job old) (view_of job new) lease progress) (sym row) (done_by_waiting waits_now offer done);
        }
