-- There is a head for each node.
use Rattle.std.proofs.Common.{ap, arith, length}
use Rattle.stab_code.proofs.Stored.{count_of_nodes}
use Rattle.stab_code.proofs.nodes.Nodes.len.Goals as goal

pub returns : goal.returns
returns c = omega (arith, c.len.ensures, c.self.inside.heads.ok.0, ap length c.self.view_is, count_of_nodes c.self.inside.heads.items c.self.inside.parts c.self.invariant)
