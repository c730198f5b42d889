use Rattle.std.proofs.Common.{◌<◌, ◌∙◌, length, slice_index, sym, subst, arith}
use Rattle.comm_graph.specs.Table.{IsLineOf, IsLineBut, Beside, thread}
use Rattle.comm_graph.proofs.Tables.{in_range}
use Rattle.comm_graph.proofs.ThreadLines.{left_one, left_two, other_line}
use Rattle.comm_graph.proofs.threads.leave.Goals as goal

pub leave_one-requires-clause-place : goal.leave_one-requires-clause-place
leave_one-requires-clause-place c = let t = c.args.table.now in in_range t.entries.items t.gone c.args.place c.requires.node.entry c.requires.node.at

pub leave_one-requires-in-Some-clause-place : goal.leave_one-requires-in-Some-clause-place
leave_one-requires-in-Some-clause-place c =
    let t = c.args.table.now in
    let r = in_range t.entries.items t.gone c.args.place c.requires.node.entry c.requires.node.at in
    (omega (arith, c.leave_one.ensures.gone), omega (arith, c.leave_one.ensures.gone, c.leave_one.ensures.beside.keeps.count))

pub leave_one-requires-in-Some-clause-line : goal.leave_one-requires-in-Some-clause-line
leave_one-requires-in-Some-clause-line c =
    let t = c.args.table.now in
    let fs = c.leave_one.new.table.entries.items in
    let x = c.in-Some.other in
    let left = c.leave_one.new.tails.items in
    subst (λ g. x.0 < length left → IsLineOf fs g (thread x.0) (slice_index left x.0)) (sym c.leave_one.ensures.gone)
    (other_line t.entries.items fs fs t.gone c.args.place c.args.kind.now c.args.tails.now.items c.first.result c.first.ensures c.requires.node c.leave_one.ensures.beside left x (sym c.in-Some.ensures)
    c.leave_one.ensures.count c.leave_one.ensures.others c.requires.lines)

pub returns-in-Some-clause-lines : goal.returns-in-Some-clause-lines
returns-in-Some-clause-lines c =
    let t = c.args.table.now in
    let fs = c.leave_one.new.table.entries.items in
    let gs = c.leave_one-in-Some.new.table.entries.items in
    let x = c.in-Some.other in
    let left = c.leave_one.new.tails.items in
    let twice = c.leave_one-in-Some.new.tails.items in
    left_two t.entries.items fs gs t.gone c.args.place c.args.kind.now c.args.tails.now.items c.first.result c.first.ensures c.requires.node c.leave_one.ensures.beside left twice x (sym c.in-Some.ensures)
    (subst (λ g. Beside (thread x.0) fs gs g) c.leave_one.ensures.gone c.leave_one-in-Some.ensures.beside)
    c.leave_one.ensures.count c.leave_one.ensures.others c.leave_one-in-Some.ensures.count c.leave_one-in-Some.ensures.others
    c.leave_one.ensures.left
    (subst (λ g. x.0 < length left → IsLineBut gs g (thread x.0) (slice_index twice x.0) c.args.place) c.leave_one.ensures.gone c.leave_one-in-Some.ensures.left)
    c.requires.lines

pub returns-in_default-clause-lines : goal.returns-in_default-clause-lines
returns-in_default-clause-lines c =
    let t = c.args.table.now in
    let fs = c.leave_one.new.table.entries.items in
    left_one t.entries.items fs fs t.gone c.args.place c.args.kind.now c.args.tails.now.items c.first.result c.first.ensures c.requires.node c.leave_one.ensures.beside c.leave_one.new.tails.items (sym c.other.ensures ∙ c.in_default.is)
    c.leave_one.ensures.count c.leave_one.ensures.others c.leave_one.ensures.left c.requires.lines
