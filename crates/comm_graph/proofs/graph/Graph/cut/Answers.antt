use Rattle.std.proofs.Common.{◌∙◌, ap, nat_le, filter}
use Rattle.comm_graph.specs.Node.{Node}
use Rattle.comm_graph.specs.Edge.{NodeList}
use Rattle.comm_graph.proofs.Shrunk.{dropped_count, dropped_nodes, dropped_sound}
use Rattle.comm_graph.proofs.graph.Graph.cut.Goals as goal

pub overflow_sub-self : goal.overflow_sub-self
overflow_sub-self c =
    let s = c.self.inside in
    let u = c.drop_below.new.self in
    dropped_count s.table.entries.items u.entries.items s.table.gone u.gone c.args.q.0 c.drop_below.result s.tails.items s.count s.greatest c.self.invariant c.drop_below.ensures.dropped c.drop_below.ensures.front

pub invariant_of-self : goal.invariant_of-self
invariant_of-self c =
    let s = c.self.inside in
    let u = c.drop_below.new.self in
    dropped_sound s.table.entries.items u.entries.items s.table.gone u.gone c.args.q.0 c.drop_below.result s.tails.items s.count s.greatest c.self.invariant c.drop_below.ensures.dropped c.drop_below.ensures.front

pub returns-clause-nodes : goal.returns-clause-nodes
returns-clause-nodes c =
    let s = c.self.inside in
    let u = c.drop_below.new.self in
    dropped_nodes s.table.entries.items u.entries.items s.table.gone u.gone c.args.q.0 c.drop_below.result s.tails.items s.count s.greatest c.self.invariant c.drop_below.ensures.dropped c.drop_below.ensures.front
    ∙ ap (filter (λ (n : Node). nat_le c.args.q.0 n.number)) (ap (λ (v : NodeList). v.nodes) c.self.view_is)
