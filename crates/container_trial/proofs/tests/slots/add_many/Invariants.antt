use Rattle.std.proofs.Common.{◌+◌, ◌≤◌}
use Rattle.container_trial.proofs.tests.slots.add_many.Given as goal

abbrev pub invariant-loop-i : goal.invariant-loop-i
invariant-loop-i l = l.slots.next ≤ l.i + 1
