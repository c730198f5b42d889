use Rattle.std.proofs.Common.{◌+◌, ◌≤◌}
use Rattle.container_trial.proofs.tests.slots.add_five.Given as goal

abbrev pub invariant-loop-call : goal.invariant-loop-call
invariant-loop-call l = l.slots.next ≤ l.call-index + 1
