use Rattle.std.proofs.Common.{refl, arith}
use Rattle.comm_graph.specs.Table.{nodes_of}
use Rattle.comm_graph.specs.Left.{left_of}
use Rattle.comm_graph.proofs.Turns.{none_left, some_left, reader_place, turn_none}
use Rattle.comm_graph.proofs.edges.turn_to.Goals as goal

pub returns-then-reader-table : goal.returns-then-reader-table
returns-then-reader-table c =
    let t = c.args.table.now in
    let e = c.args.edges.now in
    let left = left_of (nodes_of t.entries.items) e.node.0 e.left in
    let none = none_left t.entries.items t.gone e.node.0 c.args.reader left c.requires.ready c.requires.readers (omega arith) in
    turn_none (nodes_of t.entries.items) e.node.0 left e none none refl c.requires.there

pub entry-requires : goal.entry-requires
entry-requires c =
    let t = c.args.table.now in
    let e = c.args.edges.now in
    reader_place t.entries.items t.gone e.node.0 c.args.reader (left_of (nodes_of t.entries.items) e.node.0 e.left) c.requires.ready c.requires.readers (omega arith)

pub returns : goal.returns
returns c =
    let t = c.args.table.now in
    let e = c.args.edges.now in
    let left = left_of (nodes_of t.entries.items) e.node.0 e.left in
    let s = some_left t.entries.items t.gone e.node.0 c.args.reader left c.requires.ready c.requires.readers (omega arith) c.entry.result.now c.entry.ensures in
    record { end = s.0; none = tt; same = refl; there = (c.requires.writer, s.1) }
