-- The parts so far are flat enough.
use Rattle.std.proofs.Common.{◌≡◌, ◌-◌, drop}
use Rattle.std.specs.Prelude.{nat_le}
use Rattle.language.specs.Depth.{depth_of_parts}
use Rattle.language.specs.Expression.{parts_of}
use Rattle.plain_language.proofs.expr.Expr.+is_within.Given as goal

abbrev pub decreases-is_within : goal.decreases-is_within
decreases-is_within l = l.limit

abbrev pub invariant-loop-part : goal.invariant-loop-part
invariant-loop-part l =
    nat_le (depth_of_parts (parts_of l.part-items)) (l.limit - 1) ≡ nat_le (depth_of_parts (parts_of (drop l.part-index l.part-items))) (l.limit - 1)
