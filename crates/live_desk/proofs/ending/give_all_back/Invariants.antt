use Rattle.std.proofs.Common.{◌≡◌}
use Rattle.std.specs.VecDeque.{deque_len}
use Rattle.live_desk.specs.Going.{all_given_back}
use Rattle.live_desk.proofs.ending.give_all_back.Given as goal

abbrev pub invariant-loop-lease : goal.invariant-loop-lease
invariant-loop-lease l = all_given_back l.book l.waiting.items ≡ all_given_back l.initial.book l.initial.waiting.items

abbrev pub decreases-loop-lease : goal.decreases-loop-lease
decreases-loop-lease l = deque_len l.waiting
