-- A node is the head and the parts of its number.
use Rattle.std.proofs.Common.{◌<◌, length, Some, ap, sym, ◌∙◌, arith}
use Rattle.std.proofs.lemmas.Option.{slice_get-get_or}
use Rattle.stab_code.proofs.Stored.{count_of_nodes, node_at}
use Rattle.stab_code.proofs.nodes.Nodes.at.Goals as goal

pub index-requires : goal.index-requires
index-requires c = omega (arith, c.requires, c.self.inside.heads.ok.0, ap length c.self.view_is, count_of_nodes c.self.inside.heads.items c.self.inside.parts c.self.invariant)

pub of-requires : goal.of-requires
of-requires c = omega (arith, c.requires, c.self.invariant, ap length c.self.view_is, count_of_nodes c.self.inside.heads.items c.self.inside.parts c.self.invariant)

pub returns : goal.returns
returns c =
    let h : c.args.i < length c.self.inside.heads.items = omega (arith, c.requires, ap length c.self.view_is, count_of_nodes c.self.inside.heads.items c.self.inside.parts c.self.invariant) in
    let head = slice_get-get_or c.self.inside.heads.items c.args.i c.index.result.now h ∙ ap Some (sym c.index.ensures) in
    let node = node_at c.self.inside.heads.items c.self.inside.parts c.args.i _ c.of.result.now head c.of.ensures in
    rw (← c.self.view_is, c.new.ensures) node
