use Rattle.step_eval.proofs.Calls.{is-entry}
use Rattle.step_eval.proofs.node.entry.Goals as goal

pub returns : goal.returns
returns c = is-entry c.args.p.now c.args.f.0 c.args.args.now c.body_at-n.result _ c.body_at-n.ensures.body c.in_ok-value.ensures.value
