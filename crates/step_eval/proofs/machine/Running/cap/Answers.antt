-- The forms round the redex are the frames.
use Rattle.std.proofs.Common.{◌≡◌, ◌<◌, ◌≤◌, refl, sym, ◌∙◌, arith}
use Rattle.stab_base.specs.declared.fault.Fault.TheVariants.{TooDeep}
use Rattle.language.specs.Redex.{spine}
use Rattle.step_eval.specs.ControlView.{view_of}
use Rattle.step_eval.proofs.Arriving.{arrives-by, arrives-fault}
use Rattle.step_eval.proofs.Redexes.{cap-over, cap-within, spine_is}
use Rattle.step_eval.proofs.machine.Running.cap.Goals as goal

pub returns-then-count-gt-MAX_SPINE : goal.returns-then-count-gt-MAX_SPINE
returns-then-count-gt-MAX_SPINE c = λ p e a.
    let forms : spine e ≡ c.count.result = spine_is p c.args.self.now e a ∙ sym c.count.ensures in
    let many : 1000 < c.count.result = (let over = c.if-count-gt-MAX_SPINE.true in omega (arith, over)) in
    arrives-by p (view_of c.fail.new.self) (view_of c.fail.new.self) _ _ refl (cap-over e c.count.result forms many) (arrives-fault p c.fail.new.self TooDeep c.fail.ensures.focus c.fail.ensures.round c.fail.ensures.mark)

pub returns-else-count-gt-MAX_SPINE : goal.returns-else-count-gt-MAX_SPINE
returns-else-count-gt-MAX_SPINE c = λ p e a.
    let forms : spine e ≡ c.count.result = spine_is p c.args.self.now e a ∙ sym c.count.ensures in
    let few : c.count.result ≤ 1000 = (let under = c.if-count-gt-MAX_SPINE.false in omega (arith, under)) in
    arrives-by p (view_of c.args.self.now) (view_of c.args.self.now) _ _ refl (cap-within e c.count.result forms few) a
