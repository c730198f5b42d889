use Rattle.std.proofs.Common.{◌≡◌, ◌+◌, ◌≤◌, length, sym, ap, subst, ◌∙◌, arith, inl, inr}
use Rattle.std.proofs.lemmas.Bool.{cases_lt}
use Rattle.comm_graph.specs.Table.{change, with_before, with_after, before_in, after_in, Beside, IsLineOf}
use Rattle.comm_graph.proofs.Tables.{change_length}
use Rattle.comm_graph.proofs.Joins.{last_before, member_range, line_joined, members_kept, relink_beside, beside_twice}
use Rattle.comm_graph.proofs.line.join.Goals as goal

pub set_after-requires : goal.set_after-requires
set_after-requires c =
    let t = c.args.table.now in
    let w = last_before c.args.line t.entries.items t.gone c.args.place c.args.last c.requires.line c.requires.member in
    let small : c.args.last ≤ t.gone + length t.entries.items = elim (cases_lt t.gone c.args.last) [ inl lt ↦ (member_range c.args.line t.entries.items t.gone c.args.last (w.0 lt)).1 | inr ge ↦ omega arith ] in
    let same : length c.set_before.new.self.entries.items ≡ length t.entries.items = ap length c.set_before.ensures.entries ∙ change_length (with_before c.args.line c.args.last) t.entries.items t.gone c.args.place in
    omega (arith, c.set_before.ensures.gone)

after : (c : goal.After-set_after) → c.set_after.new.self.entries.items ≡ change (with_after c.args.line c.args.place) c.args.table.now.gone c.args.last (change (with_before c.args.line c.args.last) c.args.table.now.gone c.args.place c.args.table.now.entries.items)
after c =
    c.set_after.ensures.entries
    ∙ ap (λ n. change (with_after c.args.line c.args.place) n c.args.last c.set_before.new.self.entries.items) c.set_before.ensures.gone
    ∙ ap (change (with_after c.args.line c.args.place) c.args.table.now.gone c.args.last) c.set_before.ensures.entries

pub returns-clause-beside : goal.returns-clause-beside
returns-clause-beside c =
    let t = c.args.table.now in
    let w = last_before c.args.line t.entries.items t.gone c.args.place c.args.last c.requires.line c.requires.member in
    let once = change (with_before c.args.line c.args.last) t.gone c.args.place t.entries.items in
    subst (λ fs. Beside c.args.line t.entries.items fs t.gone) (sym (after c))
    (beside_twice c.args.line t.entries.items once _ t.gone
    (relink_beside (before_in c.args.last) c.args.line t.entries.items t.gone c.args.place (λ _. c.requires.member))
    (relink_beside (after_in c.args.place) c.args.line once t.gone c.args.last (λ lt. members_kept (before_in c.args.last) c.args.line t.entries.items t.gone c.args.place c.args.line c.args.last ∙ w.0 lt)))

pub returns-clause-joined : goal.returns-clause-joined
returns-clause-joined c =
    let t = c.args.table.now in
    subst (λ fs. IsLineOf fs t.gone c.args.line c.args.place) (sym (after c))
    (line_joined c.args.line t.entries.items t.gone c.args.place c.args.last c.requires.behind c.requires.member c.requires.alone c.requires.line)
