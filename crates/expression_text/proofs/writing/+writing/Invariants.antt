use Rattle.std.proofs.Common.{◌+◌, ◌*◌}
use Rattle.language.specs.Expression.{parts_of}
use Rattle.language.specs.Size.{size_of, size_of_parts}
use Rattle.expression_text.proofs.Written.{Written}
use Rattle.expression_text.proofs.writing.+writing.Given as goal

abbrev pub decreases-put_expr : goal.decreases-put_expr
decreases-put_expr l = 2 * size_of l.e.now

abbrev pub decreases-put_parts : goal.decreases-put_parts
decreases-put_parts l = 2 * size_of_parts (parts_of l.parts.now) + 1

abbrev pub invariant-put_parts-loop-i : goal.invariant-put_parts-loop-i
invariant-put_parts-loop-i l = Written l.initial.out.items l.out.items l.items l.parts l.i
