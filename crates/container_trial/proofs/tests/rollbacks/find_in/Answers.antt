use Rattle.std.proofs.Common.{subst, arith, rules}
use Rattle.comm_graph.specs.Edge.{NodeList}
use Rattle.reach_line.specs.Reached.{AreReached}
use Rattle.container_trial.proofs.There.{marks_there, few_threads}
use Rattle.container_trial.proofs.tests.rollbacks.find_in.Goals as goal

pub lines-requires-clause-there : goal.lines-requires-clause-there
lines-requires-clause-there g c =
    let reach = subst (λ (l : NodeList). AreReached l.nodes c.args.from.0 c.reach.new.marks.nodes) c.counted.ensures c.reach.ensures.reached in
    marks_there c.args.nodes.now.graph.nodes c.args.from.0 c.reach.new.marks.nodes (search rules) reach

pub lines-requires-clause-spare : goal.lines-requires-clause-spare
lines-requires-clause-spare g c = λ q t is.
    let few = few_threads c.args.nodes.now.graph.nodes q t is.kind c.args.nodes.now.few is.there is.passes in
    omega (arith, c.requires.threads)

pub returns : goal.returns
returns g c = λ yes.
    let reach = subst (λ (l : NodeList). AreReached l.nodes c.args.from.0 c.reach.new.marks.nodes) c.counted.ensures c.reach.ensures.reached in
    marks_there c.args.nodes.now.graph.nodes c.args.from.0 c.reach.new.marks.nodes (search rules) reach
