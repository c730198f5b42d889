use Rattle.step_eval.proofs.Nodes.{head-found, head-some}
use Rattle.step_eval.proofs.node.head_at.Goals as goal

pub unwrap-requires : goal.unwrap-requires
unwrap-requires c = head-some c.args.p.now c.args.n c.requires _ c.head.ensures.value

pub returns-clause-head : goal.returns-clause-head
returns-clause-head c = head-found c.args.p.now c.args.n c.requires _ _ c.head.ensures.value c.unwrap.ensures
