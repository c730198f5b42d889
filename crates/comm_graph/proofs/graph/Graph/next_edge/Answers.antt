use Rattle.std.proofs.Common.{refl}
use Rattle.comm_graph.specs.Left.{left_of}
use Rattle.comm_graph.proofs.Turns.{turned}
use Rattle.comm_graph.proofs.graph.Graph.next_edge.Goals as goal

pub returns-clause-edges : goal.returns-clause-edges
returns-clause-edges g c =
    let ns = c.args.self.now.nodes in
    let e = c.args.edges.now in
    turned ns e.node.0 (left_of ns e.node.0 e.left) c.advance.result e c.advance.new.edges refl c.requires c.advance.ensures
