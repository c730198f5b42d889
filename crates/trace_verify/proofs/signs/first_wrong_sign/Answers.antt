use Rattle.std.proofs.Common.{◌≡◌, Bool, true, false, not, refl, sym, arith}
use Rattle.std.specs.Bool.{beq}
use Rattle.std.proofs.lemmas.Bool.{false≢true}
use Rattle.trace_verify.proofs.Signing.{compare_first, compare_on, compared_end, wrong_at}
use Rattle.trace_verify.proofs.signs.first_wrong_sign.Goals as goal

apart : (a b : Bool) → not (beq a b) ≡ true → a ≡ b → ⊥
apart true true h e = false≢true h
apart true false h e = false≢true (sym e)
apart false true h e = false≢true e
apart false false h e = false≢true h

same : (a b : Bool) → not (beq a b) ≡ false → a ≡ b
same true true h = refl
same true false h = absurd (false≢true (sym h))
same false true h = absurd (false≢true (sym h))
same false false h = refl

pub loop-i-init : goal.loop-i-init
loop-i-init c = compare_first c.args.history.now c.args.run.now c.requires.steps

pub returns-then-is_live-stays : goal.returns-then-is_live-stays
returns-then-is_live-stays c =
    wrong_at c.args.history.now c.args.run.now c.loop-i.left.now c.loop-i.i c.is_live.result c.starts_at-stays.result c.loop-i.invariant c.is_live.ensures c.starts_at-stays.ensures
    (apart c.is_live.result c.starts_at-stays.result c.if-is_live-stays.true)

pub loop-i-preserved : goal.loop-i-preserved
loop-i-preserved c =
    compare_on c.args.history.now c.args.run.now c.loop-i.left.now c.past_first-left.result.now c.loop-i.i c.is_live.result c.starts_at-stays.result c.loop-i.invariant
    (omega (arith, c.loop-i-test.true, c.len-i-end.ensures.len)) c.is_live.ensures c.starts_at-stays.ensures (same c.is_live.result c.starts_at-stays.result c.if-is_live-stays.false) c.past_first-left.ensures

pub returns : goal.returns
returns c =
    compared_end c.args.history.now c.args.run.now c.loop-i.left.now c.loop-i.i (omega (arith, c.loop-i-test.false, c.loop-i.auto.i-end, c.len-i-end.ensures.len)) c.loop-i.invariant
