use Rattle.std.proofs.Common.{◌<◌, ◌∙◌, length, slice_index, slice_set, sym, ap, subst}
use Rattle.comm_graph.specs.Table.{IsLineOf, IsLineBut, Beside, AreTails, thread}
use Rattle.comm_graph.proofs.ThreadLines.{joined_one, joined_two, other_but}
use Rattle.comm_graph.proofs.threads.join.Goals as goal

pub join_one-requires-in-Some-clause-line : goal.join_one-requires-in-Some-clause-line
join_one-requires-in-Some-clause-line c =
    let t = c.args.table.now in
    let fs = c.join_one.new.table.entries.items in
    let x = c.in-Some.other in
    subst (λ ts. x.0 < length ts → IsLineBut fs c.join_one.new.table.gone (thread x.0) (slice_index ts x.0) c.args.place) (sym c.join_one.ensures.tails)
    (subst (λ g. x.0 < length (slice_set c.args.tails.now.items c.first.result.0 c.args.place) → IsLineBut fs g (thread x.0) (slice_index (slice_set c.args.tails.now.items c.first.result.0 c.args.place) x.0) c.args.place) (sym c.join_one.ensures.gone)
    (other_but t.entries.items fs fs t.gone c.args.place c.args.kind.now c.args.tails.now.items c.first.result c.first.ensures c.requires.node c.join_one.ensures.beside x (sym c.in-Some.ensures) c.requires.lines))

pub returns-in-Some-clause-lines : goal.returns-in-Some-clause-lines
returns-in-Some-clause-lines c =
    let t = c.args.table.now in
    let fs = c.join_one.new.table.entries.items in
    let x = c.in-Some.other in
    subst (λ ts. AreTails c.join_one-in-Some.new.table.entries.items t.gone ts) (sym (c.join_one-in-Some.ensures.tails ∙ ap (λ ts. slice_set ts x.0 c.args.place) c.join_one.ensures.tails))
    (joined_two t.entries.items fs c.join_one-in-Some.new.table.entries.items t.gone c.args.place c.args.kind.now c.args.tails.now.items c.first.result c.first.ensures c.requires.node c.join_one.ensures.beside x (sym c.in-Some.ensures)
    (subst (λ g. Beside (thread x.0) fs c.join_one-in-Some.new.table.entries.items g) c.join_one.ensures.gone c.join_one-in-Some.ensures.beside)
    c.join_one.ensures.joined
    (subst (λ g. x.0 < length (slice_set c.args.tails.now.items c.first.result.0 c.args.place) → IsLineOf c.join_one-in-Some.new.table.entries.items g (thread x.0) c.args.place) c.join_one.ensures.gone
    (subst (λ ts. x.0 < length ts → IsLineOf c.join_one-in-Some.new.table.entries.items c.join_one.new.table.gone (thread x.0) c.args.place) c.join_one.ensures.tails c.join_one-in-Some.ensures.joined))
    c.requires.lines)

pub returns-in_default-clause-lines : goal.returns-in_default-clause-lines
returns-in_default-clause-lines c =
    let t = c.args.table.now in
    let fs = c.join_one.new.table.entries.items in
    subst (λ ts. AreTails fs t.gone ts) (sym c.join_one.ensures.tails)
    (joined_one t.entries.items fs fs t.gone c.args.place c.args.kind.now c.args.tails.now.items c.first.result c.first.ensures c.requires.node c.join_one.ensures.beside (sym c.other.ensures ∙ c.in_default.is) c.join_one.ensures.joined c.requires.lines)
