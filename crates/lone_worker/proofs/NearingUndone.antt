-- An undo of what was lent leaves no more to do: its event weighs more than any queue is long.
use Rattle.std.proofs.Common.{◌≡◌, ℕ, ◌+◌, ◌<◌, ◌≤◌, ◌^◌, [], ◌∷◌, ◌++◌, length, sym, ap, ◌∙◌, arith}
use Rattle.std.proofs.lemmas.List.Sums.{sum_by-append}
use Rattle.std.proofs.lemmas.Map.Steps.{length-le_from_distinct_below}
use Rattle.stab_journal.specs.declared.event.Event.{Event}
use Rattle.stab_journal.specs.Event.{weigh, weight_of}
use Rattle.thread_slots.specs.declared.state.State.TheVariants.{Ready}
use Rattle.commit_book.specs.Book.{BookView, IsShown}
use Rattle.commit_book.specs.Leases.{LeaseView}
use Rattle.commit_book.specs.Rows.{events_by, local_of}
use Rattle.commit_book.specs.Undoing.{IsTakenBack, begun, undo_by}
use Rattle.commit_book.proofs.Threads.Choosing.{found_in}
use Rattle.commit_book.proofs.Threads.Holding.{low}
use Rattle.step_eval.specs.ControlView.{ControlView}
use Rattle.lone_worker.specs.Turn.{IsLentAlone, left_to_do}
use Rattle.lone_worker.proofs.Nearing.{local_weighs}

-- a queue has each thread once at most
pub queue_few : (b : BookView) → IsShown b → length b.queue ≤ b.next.thread
queue_few b shown =
    length-le_from_distinct_below b.queue b.next.thread shown.shows.threads.queue.once
    (λ u queued. let f = found_in b.threads u Ready (sym (shown.shows.threads.queue.ready u) ∙ queued) in low b shown u f.slot f.found)

module _ (lent new : BookView) (lease : LeaseView) (control : ControlView) (n m : ℕ) (shown_new : IsShown new) (is : IsLentAlone lent lease control) (last : ℕ) (next : last + 1 ≡ new.next.thread) (few : last < 2 ^ 32)
    (taken : IsTakenBack lent (record new { answered = lent.answered }) lease.worker lease.thread n m (begun lent lease.thread n)) where
  weighs : weight_of new.history.events ≡ weight_of lent.history.events + (n + 1)
  weighs =
      let locals = events_by lease.worker (local_of lease.thread n) in
      let undo = undo_by lease.worker lease.thread m ∷ [] in
      let a = ap weight_of taken.events ∙ sum_by-append (λ (e : Event). weigh e.what) (lent.history.events ++ locals) undo in
      let b = sum_by-append (λ (e : Event). weigh e.what) lent.history.events locals in
      let c = local_weighs lease.worker lease.thread n in
      omega (arith, a, b, c)

  pub undone_nearer : left_to_do new ≤ left_to_do lent
  undone_nearer =
      let weight = weighs in
      let queue = queue_few new shown_new in
      let job = ap (λ j. j.fuel) taken.job in
      let light = is.light in
      omega (arith, weight, queue, job, light, next, few)
