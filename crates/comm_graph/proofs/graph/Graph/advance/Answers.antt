use Rattle.std.proofs.Common.{Some, refl, sym, ap, subst, ◌∙◌}
use Rattle.comm_graph.specs.Edge.{NodeList, kind_of}
use Rattle.comm_graph.specs.declared.edges.Left.TheVariants.{Before}
use Rattle.comm_graph.specs.Left.{IsLeft}
use Rattle.comm_graph.proofs.Reading.{must_be}
use Rattle.comm_graph.proofs.Turns.{less_ready}
use Rattle.comm_graph.proofs.graph.Graph.advance.Goals as goal

pub from_reads-requires-clause-ready : goal.from_reads-requires-clause-ready
from_reads-requires-clause-ready c =
    let s = c.self.inside in
    less_ready s.table.entries.items s.table.gone s.tails.items (s.count, s.greatest, c.self.invariant)

pub from_reader-requires-clause-ready : goal.from_reader-requires-clause-ready
from_reader-requires-clause-ready c =
    let s = c.self.inside in
    less_ready s.table.entries.items s.table.gone s.tails.items (s.count, s.greatest, c.self.invariant)

pub returns-in-None : goal.returns-in-None
returns-in-None c =
    let t = c.self.inside.table in
    absurd (must_be t.entries.items t.gone c.args.edges.now.node.0 c.in-None.ensures.none (kind_of c.args.self.now.nodes c.args.edges.now.node.0) (ap (λ ns. kind_of ns c.args.edges.now.node.0) (sym (ap (λ (v : NodeList). v.nodes) c.self.view_is))) c.requires.there)

pub returns-in-None-find_near : goal.returns-in-None-find_near
returns-in-None-find_near c =
    let t = c.self.inside.table in
    absurd (must_be t.entries.items t.gone c.args.edges.now.node.0 c.in-None-find_near.ensures.none (kind_of c.args.self.now.nodes c.args.edges.now.node.0) (ap (λ ns. kind_of ns c.args.edges.now.node.0) (sym (ap (λ (v : NodeList). v.nodes) c.self.view_is))) c.requires.there)

pub returns-in-None-find_near-2 : goal.returns-in-None-find_near-2
returns-in-None-find_near-2 c =
    let t = c.self.inside.table in
    absurd (must_be t.entries.items t.gone c.args.edges.now.node.0 c.in-None-find_near-2.ensures.none (kind_of c.args.self.now.nodes c.args.edges.now.node.0) (ap (λ ns. kind_of ns c.args.edges.now.node.0) (sym (ap (λ (v : NodeList). v.nodes) c.self.view_is))) c.requires.there)

pub returns-in-None-find_near-3 : goal.returns-in-None-find_near-3
returns-in-None-find_near-3 c =
    let t = c.self.inside.table in
    let r = c.in-Before.reader in
    let there : IsLeft c.args.self.now.nodes c.args.edges.now.node.0 (Before r) = subst (IsLeft c.args.self.now.nodes c.args.edges.now.node.0) c.in-Before.is c.requires.left in
    absurd (must_be t.entries.items t.gone r.0 c.in-None-find_near-3.ensures.none (Some there.1.0) (sym there.1.1 ∙ ap (λ ns. kind_of ns r.0) (sym (ap (λ (v : NodeList). v.nodes) c.self.view_is))) refl)
