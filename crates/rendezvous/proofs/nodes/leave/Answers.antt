use Rattle.rendezvous.proofs.Threads.{line_left, still_nowhere}
use Rattle.rendezvous.proofs.nodes.leave.Goals as goal

pub returns-clause-lines : goal.returns-clause-lines
returns-clause-lines c = λ d.
    line_left c.args.lists.now.lists c.leave.new.self.lists c.leave-2.new.self.lists c.args.t.0 c.first_node.result c.second_node.result d c.first_node.ensures.number c.second_node.ensures.number c.leave.ensures.lists c.leave-2.ensures.lists c.requires.nought

pub returns-clause-nought : goal.returns-clause-nought
returns-clause-nought c =
    still_nowhere c.leave.new.self.lists c.leave-2.new.self.lists 0 c.second_node.result c.leave-2.ensures.lists
    (still_nowhere c.args.lists.now.lists c.leave.new.self.lists 0 c.first_node.result c.leave.ensures.lists c.requires.nought)
