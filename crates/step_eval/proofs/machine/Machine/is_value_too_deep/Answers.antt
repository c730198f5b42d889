-- A value goes into the innermost frame.
use Rattle.std.proofs.Common.{◌≡◌, ◌+◌, ◌-◌, ◌<◌, length, slice_get, Some, ap, sym, ◌∙◌, arith}
use Rattle.std.specs.Prelude.{nat_lt}
use Rattle.step_eval.specs.FrameView.{FrameView}
use Rattle.step_eval.specs.View.{round_of}
use Rattle.step_eval.specs.declared.site.Site.TheVariants.{Form, Section}
use Rattle.step_eval.proofs.Searching.{first-form, form-deep, section-deep, some-long}
use Rattle.step_eval.proofs.machine.Machine.is_value_too_deep.Goals as goal

pub depth_of-requires-clause-there : goal.depth_of-requires-clause-there
depth_of-requires-clause-there c =
    let p = c.args.p.now in
    let round = round_of c.args.self.now in
    let f = c.innermost-frame.result.now in
    let first : slice_get round 0 ≡ Some f = c.innermost-frame.ensures in
    let at : f.site ≡ Form c.in-Form.n c.in-Form.from = ap (λ (x : FrameView). x.site) (sym c.frame.view_is) ∙ sym c.site.ensures ∙ c.in-Form.is in
    (first-form p c.args.self.now.mark round f c.in-Form.n c.in-Form.from c.requires first at).there

pub depth_of-requires-clause-left : goal.depth_of-requires-clause-left
depth_of-requires-clause-left c =
    let p = c.args.p.now in
    let round = round_of c.args.self.now in
    let f = c.innermost-frame.result.now in
    let first : slice_get round 0 ≡ Some f = c.innermost-frame.ensures in
    let at : f.site ≡ Form c.in-Form.n c.in-Form.from = ap (λ (x : FrameView). x.site) (sym c.frame.view_is) ∙ sym c.site.ensures ∙ c.in-Form.is in
    λ h. (first-form p c.args.self.now.mark round f c.in-Form.n c.in-Form.from c.requires first at).left

pub returns-in-Section : goal.returns-in-Section
returns-in-Section c = λ v.
    let p = c.args.p.now in
    let round = round_of c.args.self.now in
    let f = c.innermost-frame.result.now in
    let first : slice_get round 0 ≡ Some f = c.innermost-frame.ensures in
    let at : f.site ≡ Section c.in-Section._m c.in-Section._outer = ap (λ (x : FrameView). x.site) (sym c.frame.view_is) ∙ sym c.site.ensures ∙ c.in-Section.is in
    let some : 0 < length round = some-long round c.if-is_alone.ensures.some in
    let count : c.count-round.result ≡ length round = c.count-round.ensures in
    let k = c.count-round.result - 1 in
    let long : k + 1 ≡ length round = omega arith in
    c.exceeds.ensures ∙ ap (nat_lt 1000) (sym (section-deep p c.args.self.now.mark v round f c.in-Section._m c.in-Section._outer k c.requires first at long))

pub returns-in-Form : goal.returns-in-Form
returns-in-Form c = λ v.
    let p = c.args.p.now in
    let round = round_of c.args.self.now in
    let f = c.innermost-frame.result.now in
    let first : slice_get round 0 ≡ Some f = c.innermost-frame.ensures in
    let at : f.site ≡ Form c.in-Form.n c.in-Form.from = ap (λ (x : FrameView). x.site) (sym c.frame.view_is) ∙ sym c.site.ensures ∙ c.in-Form.is in
    let some : 0 < length round = some-long round c.if-is_alone.ensures.some in
    let count : c.count-round.result ≡ length round = c.count-round.ensures in
    let k = c.count-round.result - 1 in
    let long : k + 1 ≡ length round = omega arith in
    let taken : c.len.result + 1 ≡ length f.done + 1 = ap (λ n. n + 1) (c.len.ensures.value ∙ ap (λ (x : FrameView). length x.done) c.frame.view_is) in
    c.exceeds-in-Form.ensures ∙ ap (nat_lt 1000) (sym (form-deep p c.args.self.now.mark v round f c.in-Form.n c.in-Form.from (c.len.result + 1) c.depth_of.result k c.requires first at taken long c.depth_of.ensures.depth))
