-- The lines of the threads so far.
use Rattle.std.proofs.Common.{◌-◌}
use Rattle.image_text.proofs.Going.{IsGoing}
use Rattle.state_text.specs.Text.{fault_line_of}
use Rattle.state_text.proofs.text.put_faults.Given as goal

abbrev pub invariant-loop-t : goal.invariant-loop-t
invariant-loop-t l = IsGoing (fault_line_of l.state.program) l.state.state.threads l.last l.initial.text.items l.text.items

abbrev pub decreases-loop-t : goal.decreases-loop-t
decreases-loop-t l = 4294967296 - l.last
