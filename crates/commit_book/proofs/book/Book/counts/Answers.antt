use Rattle.std.proofs.Common.{◌-◌, refl, subst, arith}
use Rattle.thread_slots.specs.declared.state.State.TheVariants.{Ready, Leased, Parked, Ended}
use Rattle.commit_book.specs.Book.{BookView}
use Rattle.commit_book.specs.Counts.{AreCounts}
use Rattle.commit_book.specs.Layout.{view_of}
use Rattle.commit_book.proofs.Threads.Choosing.{faulted_ended}
use Rattle.commit_book.proofs.book.Book.counts.Goals as goal

pub overflow_sub-result : goal.overflow_sub-result
overflow_sub-result c =
    omega (arith, c.counts-states.ensures Ended, c.self.invariant.kept.tallied.faulted, faulted_ended (view_of c.self.inside.job c.self.inside.parts) c.self.invariant.kept.shown)

pub returns-clause-counts : goal.returns-clause-counts
returns-clause-counts c =
    subst (λ (b : BookView). AreCounts b (record { ended = c.counts-states.result.ended - c.self.inside.parts.tallies.faulted; faulted = c.self.inside.parts.tallies.faulted; parked = c.counts-states.result.parked; ready = c.counts-states.result.ready; leased = c.counts-states.result.leased; commits = c.self.inside.parts.tallies.commits; stale = c.self.inside.parts.tallies.stale; undos = c.self.inside.parts.tallies.undos })) c.self.view_is (record {
      ended = omega (arith, c.counts-states.ensures Ended, c.self.invariant.kept.tallied.faulted, faulted_ended (view_of c.self.inside.job c.self.inside.parts) c.self.invariant.kept.shown);
      faulted = c.self.invariant.kept.tallied.faulted;
      parked = c.counts-states.ensures Parked;
      ready = c.counts-states.ensures Ready;
      leased = c.counts-states.ensures Leased;
      commits = refl;
      stale = refl;
      undos = c.self.invariant.kept.tallied.undos;
    })
