use Rattle.std.proofs.Common.{sym, ap, ◌∙◌, subst}
use Rattle.rendezvous.specs.declared.offer.Offer.TheVariants as offer
use Rattle.rendezvous.specs.Nodes.{AreListed}
use Rattle.rendezvous.proofs.Threads.{itself, nowhere_node, or_none}
use Rattle.rendezvous.proofs.nodes.enter.Goals as goal

pub push-requires-clause-list : goal.push-requires-clause-list
push-requires-clause-list c = subst (λ o. AreListed o c.args.lists.now.lists) c.in-Send.is c.requires.listed c.in-Send.a.0 (or_none _ (itself c.in-Send.a.0))

pub push-requires-clause-nowhere : goal.push-requires-clause-nowhere
push-requires-clause-nowhere c = nowhere_node c.args.lists.now.lists c.args.t.0 c.first_node.result c.first_node.ensures.thread c.requires.away

pub push-requires-in-Recv-clause-list : goal.push-requires-in-Recv-clause-list
push-requires-in-Recv-clause-list c = subst (λ o. AreListed o c.args.lists.now.lists) c.in-Recv.is c.requires.listed c.in-Recv.a.0 (itself c.in-Recv.a.0)

pub push-requires-in-Recv-clause-nowhere : goal.push-requires-in-Recv-clause-nowhere
push-requires-in-Recv-clause-nowhere c = nowhere_node c.args.lists.now.lists c.args.t.0 c.first_node-in-Recv.result c.first_node-in-Recv.ensures.thread c.requires.away

pub enter_both-requires-clause-listed : goal.enter_both-requires-clause-listed
enter_both-requires-clause-listed c = subst (λ o. AreListed o c.args.lists.now.lists) c.in-Pick.is c.requires.listed
