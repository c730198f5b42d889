use Rattle.std.specs.VecDeque.{deque_len}
use Rattle.commit_book.specs.Probing.{IsWithinScript}
use Rattle.live_desk.specs.Live.{live_of}
use Rattle.live_desk.proofs.Committing.{Passed}
use Rattle.live_desk.proofs.passing.pass.Given as goal

abbrev pub invariant-loop-waiting : goal.invariant-loop-waiting
invariant-loop-waiting l = Passed (live_of l.initial.book l.initial.waiting.items) (live_of l.book l.waiting.items) × IsWithinScript l.book

abbrev pub decreases-loop-waiting : goal.decreases-loop-waiting
decreases-loop-waiting l = deque_len l.waiting
