-- The innermost frame tells.
use Rattle.std.proofs.Common.{◌≡◌, ap, ◌∙◌}
use Rattle.step_eval.specs.FrameView.{FrameView}
use Rattle.step_eval.specs.Fits.{outside}
use Rattle.step_eval.specs.View.{round_of}
use Rattle.step_eval.proofs.Marking.{first-same, no-first}
use Rattle.step_eval.proofs.machine.Machine.mark_round_value.Goals as goal

pub returns-then-is_alone-clause-within : goal.returns-then-is_alone-clause-within
returns-then-is_alone-clause-within c = λ f first. absurd (no-first (round_of c.args.self.now) f c.if-is_alone.ensures.alone first)

pub returns-clause-within : goal.returns-clause-within
returns-clause-within c = λ f first.
    let same : c.innermost-frame.result.now ≡ f = first-same (round_of c.args.self.now) c.innermost-frame.result.now f c.innermost-frame.ensures first in
    c.seq-2.ensures ∙ c.outside.ensures ∙ ap (λ (x : FrameView). outside c.args.self.now.mark x.site) (c.frame.view_is ∙ same)
