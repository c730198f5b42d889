use Rattle.std.proofs.Common.{◌≡◌, ◌+◌, ◌*◌, ◌<◌, ◌||◌, true, false, nat_eq, length, sym, ap, ◌∙◌, arith}
use Rattle.rendezvous.proofs.Threads.{itself, nowhere_node, last_true, second_apart}
use Rattle.rendezvous.proofs.nodes.enter_both.Goals as goal

pub push-requires-clause-list : goal.push-requires-clause-list
push-requires-clause-list c = c.requires.listed c.args.a.0 (ap (λ x. x || nat_eq c.args.a.0 c.args.b.0) (itself c.args.a.0))

pub push-requires-clause-nowhere : goal.push-requires-clause-nowhere
push-requires-clause-nowhere c = nowhere_node c.args.lists.now.lists c.args.t.0 c.first_node.result c.first_node.ensures.thread c.requires.away

pub push-requires-then-a-b-clause-list : goal.push-requires-then-a-b-clause-list
push-requires-then-a-b-clause-list c =
    let low : 2 * c.args.b.0 + 1 < length c.args.lists.now.lists = c.requires.listed c.args.b.0 (last_true (nat_eq c.args.b.0 c.args.a.0) (nat_eq c.args.b.0 c.args.b.0) (itself c.args.b.0)) in
    omega (arith, c.push.ensures.many)

pub push-requires-then-a-b-clause-nowhere : goal.push-requires-then-a-b-clause-nowhere
push-requires-then-a-b-clause-nowhere c =
    c.push.ensures.others c.second_node.result (second_apart c.args.t.0 c.first_node.result c.second_node.result c.first_node.ensures.number c.second_node.ensures.number)
    (nowhere_node c.args.lists.now.lists c.args.t.0 c.second_node.result c.second_node.ensures.thread c.requires.away)
