use Rattle.std.proofs.Common.{refl, sym, ap, ◌∙◌}
use Rattle.stab_base.specs.declared.numbers.ThreadId.{ThreadId}
use Rattle.comm_graph.specs.declared.edges.Left.TheVariants.{First, Second}
use Rattle.comm_graph.specs.Node.{first_of}
use Rattle.comm_graph.specs.Edge.{next_of}
use Rattle.comm_graph.specs.Table.{nodes_of, nodes_behind}
use Rattle.comm_graph.specs.Left.{left_of}
use Rattle.comm_graph.proofs.Tables.{in_range}
use Rattle.comm_graph.proofs.Turns.{first_left, at_place, turn_some, turn_later, same_entry}
use Rattle.comm_graph.proofs.edges.from_first.Goals as goal

pub entry-requires : goal.entry-requires
entry-requires c = let t = c.args.table.now in in_range t.entries.items t.gone c.args.place c.requires.found.entry c.requires.found.at

pub next_acting-requires-clause-place : goal.next_acting-requires-clause-place
next_acting-requires-clause-place c = let t = c.args.table.now in in_range t.entries.items t.gone c.args.place c.requires.found.entry c.requires.found.at

pub returns-in-Some : goal.returns-in-Some
returns-in-Some c =
    let t = c.args.table.now in
    let q = c.args.edges.now.node.0 in
    let e = c.entry.result.now in
    let f = same_entry t.entries.items t.gone q c.args.place e c.requires.found c.entry.ensures in
    let behind = nodes_behind t.entries.items t.gone c.args.place in
    let next = c.in-Some.ensures.next ∙ ap (λ (u : ThreadId). next_of u.0 behind) c.first-first.ensures in
    turn_some (nodes_of t.entries.items) q (left_of (nodes_of t.entries.items) q First) c.entry-in-Some.result.now.number _ (next_of (first_of e.kind).0 behind)
    (sym next ∙ at_place t.entries.items t.gone c.in-Some.next c.entry-in-Some.result.now c.entry-in-Some.ensures)
    (first_left t.entries.items t.gone c.args.place q e c.requires.ready.2.sorted c.entry.ensures f.0 f.1) refl tt

pub returns-in-None : goal.returns-in-None
returns-in-None c =
    let t = c.args.table.now in
    let q = c.args.edges.now.node.0 in
    let e = c.entry.result.now in
    let f = same_entry t.entries.items t.gone q c.args.place e c.requires.found c.entry.ensures in
    let behind = nodes_behind t.entries.items t.gone c.args.place in
    let next = c.in-None.ensures.next ∙ ap (λ (u : ThreadId). next_of u.0 behind) c.first-first.ensures in
    turn_later (nodes_of t.entries.items) q (left_of (nodes_of t.entries.items) q First) (left_of (nodes_of t.entries.items) q Second) (next_of (first_of e.kind).0 behind) c.from_second.result c.from_second.new.edges
    (sym next)
    (first_left t.entries.items t.gone c.args.place q e c.requires.ready.2.sorted c.entry.ensures f.0 f.1)
    c.from_second.ensures
