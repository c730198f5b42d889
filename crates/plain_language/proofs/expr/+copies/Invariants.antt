use Rattle.std.proofs.Common.{◌≡◌, ◌+◌, ◌*◌, map, take}
use Rattle.plain_language.specs.Given.{given_to}
use Rattle.language.specs.Expression.{parts_of, put}
use Rattle.language.specs.Size.{size_of, size_of_parts}
use Rattle.plain_language.proofs.expr.+copies.Given as goal

abbrev pub decreases-Expr::put_copy : goal.decreases-Expr::put_copy
decreases-Expr::put_copy l = 2 * size_of l.self.now

abbrev pub decreases-put_copies : goal.decreases-put_copies
decreases-put_copies l = 2 * size_of_parts (parts_of l.parts.now) + 1

abbrev pub invariant-put_copies-loop-part : goal.invariant-put_copies-loop-part
invariant-put_copies-loop-part l = l.copies.items ≡ map (put (given_to l.given)) (take l.part-index l.parts)
