use Rattle.std.proofs.Common.{cond, reverse, [], refl, sym, ap, subst, ◌∙◌}
use Rattle.comm_graph.specs.declared.edges.Left.TheVariants.{Reads}
use Rattle.comm_graph.specs.Edge.{readers_of}
use Rattle.comm_graph.specs.Table.{nodes_of, readers, IsLineOf}
use Rattle.comm_graph.specs.Left.{left_of}
use Rattle.comm_graph.proofs.Tables.{in_range}
use Rattle.comm_graph.proofs.Reading.{kind_found}
use Rattle.comm_graph.proofs.Turns.{reads_left, all_readers, same_entry}
use Rattle.comm_graph.proofs.edges.from_reads.Goals as goal

pub entry-entry-requires : goal.entry-entry-requires
entry-entry-requires c = let t = c.args.table.now in in_range t.entries.items t.gone c.args.place c.requires.found.entry c.requires.found.at

pub turn_to-requires-clause-readers : goal.turn_to-requires-clause-readers
turn_to-requires-clause-readers c =
    let t = c.args.table.now in
    let q = c.args.edges.now.node.0 in
    let e = c.entry-entry.result.now in
    let f = same_entry t.entries.items t.gone q c.args.place e c.requires.found c.entry-entry.ensures in
    let w = sym c.is_write.ensures ∙ c.if-is_write.true in
    all_readers t.entries.items t.gone q e.last_reader (left_of (nodes_of t.entries.items) q Reads)
    (subst (λ n. IsLineOf t.entries.items t.gone (readers n) e.last_reader) f.1 (c.requires.ready.2.reading c.args.place e c.entry-entry.ensures f.0 w))
    (reads_left t.entries.items t.gone c.args.place q e c.requires.ready.2.sorted c.entry-entry.ensures f.0 f.1 ∙ ap (λ b. cond b (reverse (readers_of q (nodes_of t.entries.items))) []) w)

pub turn_to-requires-clause-writer : goal.turn_to-requires-clause-writer
turn_to-requires-clause-writer c =
    let t = c.args.table.now in
    let e = c.entry-entry.result.now in
    (e.kind, kind_found t.entries.items t.gone c.args.edges.now.node.0 c.args.place e c.requires.ready.2.sorted c.requires.found c.entry-entry.ensures, sym c.is_write.ensures ∙ c.if-is_write.true)

pub returns-else-is_write : goal.returns-else-is_write
returns-else-is_write c =
    let t = c.args.table.now in
    let q = c.args.edges.now.node.0 in
    let e = c.entry-entry.result.now in
    let f = same_entry t.entries.items t.gone q c.args.place e c.requires.found c.entry-entry.ensures in
    let none = reads_left t.entries.items t.gone c.args.place q e c.requires.ready.2.sorted c.entry-entry.ensures f.0 f.1 ∙ ap (λ b. cond b (reverse (readers_of q (nodes_of t.entries.items))) []) (sym c.is_write.ensures ∙ c.if-is_write.false) in
    record { end = none ∙ sym none; none = none; same = refl; there = tt }
