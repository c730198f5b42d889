use Rattle.std.proofs.Common.{◌≤◌, ◌+◌, length, take}
use Rattle.std.specs.List.{sum_by}
use Rattle.std.specs.Vec.{vec_capacity}
use Rattle.restore.specs.Found.{numbers}
use Rattle.commit_book.specs.OwnSteps.{IsGatheredFrom}
use Rattle.commit_book.proofs.rollback.take_lost.Given as goal

-- the lost steps of the threads so far were taken out, and there is room for the others
abbrev pub invariant-loop-t : goal.invariant-loop-t
invariant-loop-t l = record {
  gathered : IsGatheredFrom l.plan.lines l.initial.own l.own l.lost.items (numbers (take l.t-index l.t-items));
  room : length l.lost.items + sum_by length l.own.steps ≤ vec_capacity l.lost;
}
