use Rattle.std.proofs.Common.{ap, subst}
use Rattle.comm_graph.specs.declared.edges.Left.TheVariants.{Before}
use Rattle.comm_graph.specs.Table.{nodes_of, readers}
use Rattle.comm_graph.specs.Left.{left_of, IsLeft}
use Rattle.comm_graph.proofs.Tables.{in_range}
use Rattle.comm_graph.proofs.Joins.{links_before}
use Rattle.comm_graph.proofs.Turns.{writer_line, reader_stands, readers_before, same_entry}
use Rattle.comm_graph.proofs.edges.from_reader.Goals as goal

pub entry-requires : goal.entry-requires
entry-requires c = let t = c.args.table.now in in_range t.entries.items t.gone c.args.place c.requires.found.entry c.requires.found.at

pub turn_to-requires-clause-readers : goal.turn_to-requires-clause-readers
turn_to-requires-clause-readers c =
    let t = c.args.table.now in
    let q = c.args.edges.now.node.0 in
    let e = c.entry.result.now in
    let f = same_entry t.entries.items t.gone c.args.reader.0 c.args.place e c.requires.found c.entry.ensures in
    let there : IsLeft (nodes_of t.entries.items) q (Before c.args.reader) = subst (IsLeft (nodes_of t.entries.items) q) c.requires.left c.requires.there in
    let line = writer_line t.entries.items t.gone q c.requires.ready there.0 in
    readers_before t.entries.items t.gone q c.args.place line.0 c.args.reader.0 c.links-before.result.before (left_of (nodes_of t.entries.items) q c.args.edges.now.left) e c.requires.ready.2.sorted line.1 c.entry.ensures f.0 f.1
    (reader_stands t.entries.items t.gone q c.args.reader.0 c.args.place e c.requires.ready there.1 c.requires.found c.entry.ensures)
    (links_before (readers q) t.entries.items t.gone c.args.place e c.links-before.result c.entry.ensures c.links-before.ensures)
    (ap (left_of (nodes_of t.entries.items) q) c.requires.left)

pub turn_to-requires-clause-writer : goal.turn_to-requires-clause-writer
turn_to-requires-clause-writer c =
    let t = c.args.table.now in
    let q = c.args.edges.now.node.0 in
    let there : IsLeft (nodes_of t.entries.items) q (Before c.args.reader) = subst (IsLeft (nodes_of t.entries.items) q) c.requires.left c.requires.there in
    there.0
