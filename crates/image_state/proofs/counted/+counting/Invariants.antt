-- The parts so far are the program's.
use Rattle.std.proofs.Common.{◌≡◌, ◌+◌, ◌*◌, drop}
use Rattle.language.specs.Expression.{parts_of}
use Rattle.language.specs.Size.{size_of, size_of_parts}
use Rattle.image_state.specs.Counted.{are_of}
use Rattle.image_state.proofs.counted.+counting.Given as goal

abbrev pub decreases-is_of : goal.decreases-is_of
decreases-is_of l = 2 * size_of l.e.now

abbrev pub decreases-are_of : goal.decreases-are_of
decreases-are_of l = 2 * size_of_parts (parts_of l.parts.now) + 1

abbrev pub invariant-are_of-loop-part : goal.invariant-are_of-loop-part
invariant-are_of-loop-part l = are_of l.program (parts_of l.parts) ≡ are_of l.program (parts_of (drop l.part-index l.parts))
