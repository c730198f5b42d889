use Rattle.std.proofs.Common.{◌+◌, ◌≤◌}
use Rattle.container_trial.proofs.tests.slots.first_apart.Given as goal

abbrev pub invariant-loop-call : goal.invariant-loop-call
invariant-loop-call l = (l.slots.next ≤ l.call-index + 1) × (l.next ≤ l.call-index + 1)
