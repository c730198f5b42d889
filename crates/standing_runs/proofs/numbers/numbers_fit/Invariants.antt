-- The numbers of the nodes so far fit.
use Rattle.std.proofs.Common.{ℕ, ◌-◌, ◌<◌, ◌≤◌, length, slice_get, IfSome}
use Rattle.standing_runs.specs.Numbers.{HasNumbers}
use Rattle.standing_runs.proofs.numbers.numbers_fit.Given as goal

abbrev pub invariant-loop-node : goal.invariant-loop-node
invariant-loop-node l = record {
  within : l.n ≤ length l.program.nodes;
  fit : (k : ℕ) → k < l.n → IfSome (slice_get l.program.nodes k) (λ node. HasNumbers node.head);
}

abbrev pub decreases-loop-node : goal.decreases-loop-node
decreases-loop-node l = length l.program.nodes - l.n
