-- How far the threads were taken.
use Rattle.std.proofs.Common.{◌-◌}
use Rattle.image_run.proofs.going.queue_of.Given as goal

abbrev pub decreases-loop-t : goal.decreases-loop-t
decreases-loop-t l = 4294967296 - l.last
