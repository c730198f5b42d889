use Rattle.std.proofs.Common.{sym, ◌∙◌}
use Rattle.step_eval.proofs.Calls.{is-body, takes-there}
use Rattle.step_eval.proofs.Nodes.{body-some}
use Rattle.step_eval.proofs.node.body_at.Goals as goal

pub unwrap-requires : goal.unwrap-requires
unwrap-requires c = body-some _ c.args.p.now.functions c.args.f.0 _ (takes-there c.args.p.now c.args.f _ c.requires) c.body.ensures.value

pub returns-clause-body : goal.returns-clause-body
returns-clause-body c = is-body c.args.p.now c.body.ensures.valid c.args.f _ c.unwrap.result c.requires (sym c.unwrap.ensures ∙ c.body.ensures.value)
