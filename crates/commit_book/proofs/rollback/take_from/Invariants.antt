use Rattle.std.proofs.Common.{◌≤◌, ◌+◌, length}
use Rattle.std.specs.List.{sum_by}
use Rattle.std.specs.Vec.{vec_capacity}
use Rattle.own_steps.specs.Own.{steps_of}
use Rattle.commit_book.specs.OwnSteps.{IsTakenSoFar}
use Rattle.commit_book.proofs.rollback.take_from.Given as goal

-- the last steps were taken out one by one, and there is room for the others
abbrev pub invariant-loop-t : goal.invariant-loop-t
invariant-loop-t l = record {
  taken : IsTakenSoFar l.initial.own l.own l.t.0 l.line.0 l.initial.lost.items l.lost.items;
  room : length l.lost.items + sum_by length l.own.steps ≤ vec_capacity l.lost;
}

abbrev pub decreases-loop-t : goal.decreases-loop-t
decreases-loop-t l = length (steps_of l.own l.t.0)
