use Rattle.std.proofs.Common.{◌≡◌, drop}
use Rattle.comm_graph.specs.Edge.{ends}
use Rattle.comm_graph.specs.Left.{AreEdges, left_of}
use Rattle.comm_graph.proofs.graph.Graph.end_at.Given as goal

abbrev pub invariant-loop : goal.invariant-loop
invariant-loop l = record {
  edges : AreEdges l.self.nodes l.edges;
  node : l.edges.node.0 ≡ l.fn.node.0;
  left : left_of l.self.nodes l.fn.node.0 l.edges.left ≡ drop l.counter (ends l.self.nodes l.fn.node.0);
}
