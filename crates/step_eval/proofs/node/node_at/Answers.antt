use Rattle.step_eval.proofs.Nodes.{is-some, node-is}
use Rattle.step_eval.proofs.node.node_at.Goals as goal

pub unwrap-requires : goal.unwrap-requires
unwrap-requires c = is-some c.args.p.now.nodes c.args.n.0 _ c.requires c.node.ensures.value

pub returns-clause-node : goal.returns-clause-node
returns-clause-node c = node-is c.args.p.now c.args.n _ _ c.node.ensures.value c.unwrap.ensures
