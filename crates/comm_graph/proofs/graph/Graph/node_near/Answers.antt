use Rattle.std.proofs.Common.{sym, ap, ◌∙◌}
use Rattle.comm_graph.specs.Edge.{kind_of, NodeList}
use Rattle.comm_graph.proofs.Tables.{in_range}
use Rattle.comm_graph.proofs.Reading.{kind_found, kind_none}
use Rattle.comm_graph.proofs.graph.Graph.node_near.Goals as goal

pub entry-requires : goal.entry-requires
entry-requires g c = let t = c.self.inside.table in in_range t.entries.items t.gone c.in-Some.place c.in-Some.ensures.found.entry c.in-Some.ensures.found.at

pub returns-in-Some-clause-node : goal.returns-in-Some-clause-node
returns-in-Some-clause-node g c =
    let t = c.self.inside.table in
    sym (kind_found t.entries.items t.gone c.args.q.0 c.in-Some.place c.entry.result.now c.self.invariant.sorted c.in-Some.ensures.found c.entry.ensures)
    ∙ ap (λ ns. kind_of ns c.args.q.0) (ap (λ (v : NodeList). v.nodes) c.self.view_is)

pub returns-in-None-clause-node : goal.returns-in-None-clause-node
returns-in-None-clause-node g c =
    let t = c.self.inside.table in
    sym (kind_none t.entries.items t.gone c.args.q.0 c.in-None.ensures.none) ∙ ap (λ ns. kind_of ns c.args.q.0) (ap (λ (v : NodeList). v.nodes) c.self.view_is)
