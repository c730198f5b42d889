use Rattle.std.proofs.Common.{refl, sym, ◌∙◌}
use Rattle.comm_graph.specs.declared.edges.Left.TheVariants.{Second, Reads}
use Rattle.comm_graph.specs.Node.{second_of}
use Rattle.comm_graph.specs.Table.{nodes_of, nodes_behind}
use Rattle.comm_graph.specs.Left.{left_of, second_ends}
use Rattle.comm_graph.proofs.Turns.{second_left, at_place, turn_some, turn_later}
use Rattle.comm_graph.proofs.edges.from_second.Goals as goal

pub returns-in-Some : goal.returns-in-Some
returns-in-Some c =
    let t = c.args.table.now in
    let q = c.args.edges.now.node.0 in
    let f = c.requires.found in
    let next = c.in-Some.ensures.next f.entry f.at in
    turn_some (nodes_of t.entries.items) q (left_of (nodes_of t.entries.items) q Second) c.entry.result.now.number _ (second_ends (second_of f.entry.kind) (nodes_behind t.entries.items t.gone c.args.place))
    (sym next ∙ at_place t.entries.items t.gone c.in-Some.next c.entry.result.now c.entry.ensures)
    (second_left t.entries.items t.gone c.args.place q f.entry c.requires.ready.2.sorted f.at f.live f.number) refl tt

pub returns-in-None : goal.returns-in-None
returns-in-None c =
    let t = c.args.table.now in
    let q = c.args.edges.now.node.0 in
    let f = c.requires.found in
    let next = c.in-None.ensures.next f.entry f.at in
    turn_later (nodes_of t.entries.items) q (left_of (nodes_of t.entries.items) q Second) (left_of (nodes_of t.entries.items) q Reads) (second_ends (second_of f.entry.kind) (nodes_behind t.entries.items t.gone c.args.place)) c.from_reads.result c.from_reads.new.edges
    (sym next)
    (second_left t.entries.items t.gone c.args.place q f.entry c.requires.ready.2.sorted f.at f.live f.number)
    c.from_reads.ensures
