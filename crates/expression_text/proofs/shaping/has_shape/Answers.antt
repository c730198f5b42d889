use Rattle.std.proofs.Common.{◌≡◌, Some, sym, ap, ◌∙◌, length, arith}
use Rattle.std.specs.Prelude.{vec_len}
use Rattle.std.proofs.lemmas.List.{drop_all}
use Rattle.expression_text.specs.Owing.{owed_by}
use Rattle.expression_text.specs.Shape.{shape}
use Rattle.expression_text.proofs.Owing.{further, too_long, unfit, empty_is}
use Rattle.expression_text.proofs.shaping.has_shape.Goals as goal

pub loop-word-preserved : goal.loop-word-preserved
loop-word-preserved c = (
  c.loop-word.invariant.0 ∙ further c.args.words.now c.loop-word.word-index _ c.loop-word.owed.items c.take.new.owes.items c.begin.new.owes.items c.in-Some.what c.in_ok-begin.field-0 c.loop-word-test.true c.in-Some.ensures.1 c.in_ok-begin.ensures.1 c.if-not-branch.false,
  c.in_ok-begin.ensures.0,
)

pub returns-in_default : goal.returns-in_default
returns-in_default c = sym (c.loop-word.invariant.0 ∙ too_long c.args.words.now c.loop-word.word-index c.loop-word.owed.items c.loop-word-test.true c.in_default.ensures.1)

pub returns-then-not-branch : goal.returns-then-not-branch
returns-then-not-branch c =
    sym (c.loop-word.invariant.0 ∙ unfit c.args.words.now c.loop-word.word-index _ c.loop-word.owed.items c.take.new.owes.items c.begin.new.owes.items c.in-Some.what c.in_ok-begin.field-0 c.loop-word-test.true c.in-Some.ensures.1 c.in_ok-begin.ensures.1 c.if-not-branch.true)

pub returns : goal.returns
returns c =
    let long : vec_len c.loop-word.owed ≡ length c.loop-word.owed.items = omega (arith, c.loop-word.owed.ok) in
    c.is_empty.ensures ∙ empty_is c.loop-word.owed.items (vec_len c.loop-word.owed) long c.loop-word.invariant.1
    ∙ sym (c.loop-word.invariant.0 ∙ ap (shape (Some (owed_by c.loop-word.owed.items))) (drop_all c.loop-word.word-index c.args.words.now c.loop-word-test.false))
