-- There is a head for each node.
use Rattle.std.proofs.Common.{◌≤◌, ap, arith, length, sym}
use Rattle.std.proofs.lemmas.Option.{slice_get_past}
use Rattle.stab_code.proofs.Stored.{count_of_nodes}
use Rattle.stab_code.proofs.nodes.Nodes.get.Goals as goal

pub at-requires : goal.at-requires
at-requires c = omega (arith, c.self.inside.heads.ok.0, ap length c.self.view_is, count_of_nodes c.self.inside.heads.items c.self.inside.parts c.self.invariant)

pub returns-else-i-len : goal.returns-else-i-len
returns-else-i-len c =
    let past : length c.args.self.now ≤ c.args.n.0 = omega (arith, c.self.inside.heads.ok.0, ap length c.self.view_is, count_of_nodes c.self.inside.heads.items c.self.inside.parts c.self.invariant) in
    sym (slice_get_past c.args.self.now c.args.n.0 past)
