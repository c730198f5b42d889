use Rattle.std.proofs.Common.{◌≤◌, length, sym, subst, ap, ◌∙◌, arith}
use Rattle.language.specs.Expression.{Expr, parts_of}
use Rattle.language.specs.Size.{size_of, size_of_parts}
use Rattle.language.proofs.Putting.{smaller_part}
use Rattle.image_state.specs.Held.{known_of}
use Rattle.image_state.proofs.Forms.{passed, refused}
use Rattle.image_state.proofs.bounds.Bounds.+standing.Goals as goal

pub parts_stand-stands-requires : goal.parts_stand-stands-requires
parts_stand-stands-requires t c =
    let P : Expr → Type 0 = λ (e : Expr). size_of e ≤ size_of_parts (parts_of c.args.parts.now) in
    let less = subst P (sym c.index-parts-i.is) (smaller_part c.args.parts.now c.loop-i.i c.index-parts-i.result c.loop-i-test.true) in
    (omega (arith, less, c.decreases), tt)

pub stands-returns-then-not-head_stands-clause-answer : goal.stands-returns-then-not-head_stands-clause-answer
stands-returns-then-not-head_stands-clause-answer t c =
    refused c.args.self.now.program.now (known_of c.args.self.now) c.args.bound.now c.args.e.now c.in-Some-as_form.head.now c.in-Some-as_form.parts.now c.in-Some-as_form.ensures
    c.if-not-head_stands.ensures

pub stands-returns-clause-answer : goal.stands-returns-clause-answer
stands-returns-clause-answer t c =
    passed c.args.self.now.program.now (known_of c.args.self.now) c.args.bound.now c.args.e.now c.in-Some-as_form.head.now c.in-Some-as_form.parts.now c.in-Some-as_form.ensures
    c.slots_of.result.now c.in_ok-fits.fits c.if-not-head_stands.ensures c.slots_of.ensures c.in_ok-fits.ensures.answer
