use Rattle.std.proofs.Common.{◌≤◌, sym, subst, arith}
use Rattle.language.specs.Expression.{Expr, parts_of}
use Rattle.language.specs.Size.{size_of, size_of_parts}
use Rattle.language.proofs.Putting.{smaller_part}
use Rattle.image_state.proofs.counted.+counting.Goals as goal

pub are_of-is_of-requires : goal.are_of-is_of-requires
are_of-is_of-requires t c =
    let P : Expr → Type 0 = λ (e : Expr). size_of e ≤ size_of_parts (parts_of c.args.parts.now) in
    let less = subst P (sym c.part-item.is) (smaller_part c.args.parts.now c.loop-part.part-index c.part-item.result c.loop-part-test.true) in
    (omega (arith, less, c.decreases), tt)
