-- Units fill the slots that are passed over.
use Rattle.std.proofs.Common.{◌≡◌, ◌≤◌, ◌∷◌, [], ◌++◌, length, ◌∙◌, ap, arith}
use Rattle.step_eval.proofs.Units.{all-units, more-units, no-unit}
use Rattle.step_eval.proofs.env.Env.bind.Goals as goal

pub loop-passed-init : goal.loop-passed-init
loop-passed-init c = c.self.view_is ∙ no-unit c.args.self.now c.len-passed.result (c.len-passed.ensures ∙ c.self.inside.slots.ok.0 ∙ ap length c.self.view_is)

pub loop-passed-preserved : goal.loop-passed-preserved
loop-passed-preserved c =
    let start : c.len-passed.result ≡ length c.args.self.now = c.len-passed.ensures ∙ c.self.inside.slots.ok.0 ∙ ap length c.self.view_is in
    let from = c.loop-passed.auto._passed in
    more-units c.args.self.now c.loop-passed.self-inside.slots.items c.push.new.self.items c.loop-passed._passed (omega (arith, from, start)) c.loop-passed.invariant
    (c.in_ok-push.ensures.items ∙ ap (λ u. c.loop-passed.self-inside.slots.items ++ u ∷ []) c.unit.ensures)

pub returns : goal.returns
returns c =
    let start : c.len-passed.result ≡ length c.args.self.now = c.len-passed.ensures ∙ c.self.inside.slots.ok.0 ∙ ap length c.self.view_is in
    let least : length c.args.self.now ≤ c.args.slot = c.requires in
    let end : c.loop-passed._passed ≤ c.args.slot = c.loop-passed.auto._passed-end (omega (arith, start, least)) in
    let over = c.loop-passed-test.false in
    all-units c.args.self.now c.loop-passed.self-inside.slots.items c.push-2.new.self.items c.loop-passed._passed c.args.slot c.args.v (omega (arith, over, end)) c.loop-passed.invariant c.in_ok-push-2.ensures.items
