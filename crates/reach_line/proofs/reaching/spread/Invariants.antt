use Rattle.std.proofs.Common.{◌≡◌, length}
use Rattle.comm_graph.specs.Edge.{ends}
use Rattle.comm_graph.specs.Left.{AreEdges, left_of}
use Rattle.reach_line.specs.Progress.{IsPart}
use Rattle.reach_line.proofs.reaching.spread.Given as goal

abbrev pub invariant-loop-end : goal.invariant-loop-end
invariant-loop-end g l = record {
  edges : AreEdges l.graph.nodes l.edges;
  node : l.edges.node.0 ≡ l.fn.from.0;
  part : IsPart (ends l.graph.nodes l.fn.from.0) (left_of l.graph.nodes l.fn.from.0 l.edges.left) l.fn.marks l.marks l.fn.steps l.steps;
}

abbrev pub decreases-loop-end : goal.decreases-loop-end
decreases-loop-end g l = length (left_of l.graph.nodes l.edges.node.0 l.edges.left)
