use Rattle.std.proofs.Common.{◌≤◌, sym, subst, arith}
use Rattle.std.proofs.lemmas.Result.{on_ok_weaker}
use Rattle.language.specs.Expression.{Expr, parts_of}
use Rattle.language.specs.Size.{size_of, size_of_parts}
use Rattle.language.proofs.Putting.{smaller_part}
use Rattle.expression_text.proofs.Written.{form_written}
use Rattle.expression_text.proofs.writing.+writing.Goals as goal

pub put_expr-returns : goal.put_expr-returns
put_expr-returns t c =
    on_ok_weaker c.put_parts.result
    (form_written c.args.out.now.items c.put_opening.new.out.items c.put_parts.new.out.items c.args.e.now c.in-Some-as_form.head.now c.in-Some-as_form.parts.now c.slots_of.result.now
    (sym c.in-Some-as_form.ensures) c.slots_of.ensures c.in_ok-put_opening.ensures)
    c.put_parts.ensures

pub put_parts-put_expr-requires : goal.put_parts-put_expr-requires
put_parts-put_expr-requires t c =
    let P : Expr → Type 0 = λ (e : Expr). size_of e ≤ size_of_parts (parts_of c.args.parts.now) in
    let less = subst P (sym c.index-parts-i.is) (smaller_part c.args.parts.now c.loop-i.i c.index-parts-i.result c.loop-i-test.true) in
    (omega (arith, less, c.decreases), tt)
