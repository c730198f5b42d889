use Rattle.comm_graph.specs.Left.{AreEdges}
use Rattle.container_trial.proofs.tests.graphs.ends_of.Given as goal

abbrev pub invariant-loop-i : goal.invariant-loop-i
invariant-loop-i g l = AreEdges l.graph.nodes l.edges
