-- The threads so far are counted.
use Rattle.std.proofs.Common.{◌-◌}
use Rattle.state_text.proofs.Counting.{AreSoFar}
use Rattle.state_text.proofs.counts.counts_of.Given as goal

abbrev pub invariant-loop-t : goal.invariant-loop-t
invariant-loop-t l = AreSoFar l.state.program l.state.state.threads l.last l.counts

abbrev pub decreases-loop-t : goal.decreases-loop-t
decreases-loop-t l = 4294967296 - l.last
