use Rattle.std.specs.VecDeque.{deque_len}
use Rattle.live_desk.specs.Live.{live_of}
use Rattle.live_desk.proofs.Committing.{Passed}
use Rattle.live_desk.proofs.ending.commit_all.Given as goal

abbrev pub invariant-loop-book : goal.invariant-loop-book
invariant-loop-book l = Passed (live_of l.initial.book l.initial.waiting.items) (live_of l.book l.waiting.items)

abbrev pub decreases-loop-book : goal.decreases-loop-book
decreases-loop-book l = deque_len l.waiting
