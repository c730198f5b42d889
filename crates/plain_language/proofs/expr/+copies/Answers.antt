use Rattle.std.proofs.Common.{◌≤◌, sym, subst, arith}
use Rattle.language.specs.Expression.{Expr, parts_of}
use Rattle.plain_language.specs.Given.{given_to}
use Rattle.language.specs.Size.{size_of, size_of_parts}
use Rattle.language.proofs.Putting.{copied_more, copied_all, smaller_part}
use Rattle.plain_language.proofs.expr.+copies.Goals as goal

pub put_copies-put_copy-requires : goal.put_copies-put_copy-requires
put_copies-put_copy-requires t c =
    let P : Expr → Type 0 = λ (e : Expr). size_of e ≤ size_of_parts (parts_of c.args.parts.now) in
    let less = subst P (sym c.part-item.is) (smaller_part c.args.parts.now c.loop-part.part-index c.part-item.result c.loop-part-test.true) in
    (omega (arith, less, c.decreases), tt)

pub put_copies-loop-part-preserved : goal.put_copies-loop-part-preserved
put_copies-loop-part-preserved t c = copied_more (given_to c.args.given) _ _ _ _ _ _ c.loop-part-test.true c.part-item.is c.loop-part.invariant c.in_ok-put_copy.ensures c.in_ok-push.ensures.items

pub put_copies-returns : goal.put_copies-returns
put_copies-returns t c = copied_all (given_to c.args.given) _ _ _ c.loop-part-test.false c.loop-part.invariant
