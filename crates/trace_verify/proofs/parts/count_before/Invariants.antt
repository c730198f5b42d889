use Rattle.std.proofs.Common.{◌≤◌, length}
use Rattle.trace_verify.proofs.parts.count_before.Given as goal

abbrev pub invariant-loop-m : goal.invariant-loop-m
invariant-loop-m l = l.k ≤ length l.steps

abbrev pub decreases-loop-m : goal.decreases-loop-m
decreases-loop-m l = l.k
