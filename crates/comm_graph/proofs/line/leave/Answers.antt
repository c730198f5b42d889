use Rattle.std.proofs.Common.{◌≡◌, ◌+◌, ◌≤◌, length, sym, ap, subst, ◌∙◌, arith, inl, inr}
use Rattle.std.proofs.lemmas.Bool.{cases_lt}
use Rattle.comm_graph.specs.Table.{change, with_before, with_after, before_in, after_in, after_of, in_line, Beside, IsLineBut}
use Rattle.comm_graph.proofs.Tables.{change_length}
use Rattle.comm_graph.proofs.Joins.{member_range, line_left, members_kept, relink_beside, beside_twice, links_before, links_after}
use Rattle.comm_graph.proofs.line.leave.Goals as goal

pub set_after-requires : goal.set_after-requires
set_after-requires c =
    let t = c.args.table.now in
    let b = c.requires.line.back c.args.place c.requires.member in
    let is = links_before c.args.line t.entries.items t.gone c.args.place c.entry.result.now c.links-links.result c.entry.ensures c.links-links.ensures in
    omega (arith, b.below, c.requires.place.1)

pub set_before-requires : goal.set_before-requires
set_before-requires c =
    let t = c.args.table.now in
    let a = c.requires.line.on c.args.place c.requires.member in
    let is = links_after c.args.line t.entries.items t.gone c.args.place c.entry.result.now c.links-links.result c.entry.ensures c.links-links.ensures in
    let v = c.links-links.result.after in
    let small : v ≤ t.gone + length t.entries.items = elim (cases_lt 0 v) [
      | inl pos ↦ let w = a.there (omega arith) in omega (arith, (member_range c.args.line t.entries.items t.gone (after_of c.args.line t.entries.items t.gone c.args.place) w.1).1)
      | inr z ↦ omega arith
    ] in
    let same : length c.set_after.new.self.entries.items ≡ length t.entries.items = ap length c.set_after.ensures.entries ∙ change_length (with_after c.args.line c.links-links.result.after) t.entries.items t.gone c.links-links.result.before in
    omega (arith, c.set_after.ensures.gone)

after : (c : goal.After-last_left) → c.set_before.new.self.entries.items ≡ change (with_before c.args.line c.links-links.result.before) c.args.table.now.gone c.links-links.result.after (change (with_after c.args.line c.links-links.result.after) c.args.table.now.gone c.links-links.result.before c.args.table.now.entries.items)
after c =
    c.set_before.ensures.entries
    ∙ ap (λ n. change (with_before c.args.line c.links-links.result.before) n c.links-links.result.after c.set_after.new.self.entries.items) c.set_after.ensures.gone
    ∙ ap (change (with_before c.args.line c.links-links.result.before) c.args.table.now.gone c.links-links.result.after) c.set_after.ensures.entries

pub returns-clause-beside : goal.returns-clause-beside
returns-clause-beside c =
    let t = c.args.table.now in
    let b = c.links-links.result.before in
    let a = c.links-links.result.after in
    let before_is = links_before c.args.line t.entries.items t.gone c.args.place c.entry.result.now c.links-links.result c.entry.ensures c.links-links.ensures in
    let after_is = links_after c.args.line t.entries.items t.gone c.args.place c.entry.result.now c.links-links.result c.entry.ensures c.links-links.ensures in
    let pb = c.requires.line.back c.args.place c.requires.member in
    let pa = c.requires.line.on c.args.place c.requires.member in
    let once = change (with_after c.args.line a) t.gone b t.entries.items in
    subst (λ fs. Beside c.args.line t.entries.items fs t.gone) (sym (after c))
    (beside_twice c.args.line t.entries.items once _ t.gone
    (relink_beside (after_in a) c.args.line t.entries.items t.gone b (λ lt. ap (in_line c.args.line t.entries.items t.gone) before_is ∙ pb.there (omega arith)))
    (relink_beside (before_in b) c.args.line once t.gone a (λ lt.
    members_kept (after_in a) c.args.line t.entries.items t.gone b c.args.line a
    ∙ ap (in_line c.args.line t.entries.items t.gone) after_is ∙ (pa.there (omega arith)).1)))

pub returns-clause-left : goal.returns-clause-left
returns-clause-left c =
    let t = c.args.table.now in
    let before_is = links_before c.args.line t.entries.items t.gone c.args.place c.entry.result.now c.links-links.result c.entry.ensures c.links-links.ensures in
    let after_is = links_after c.args.line t.entries.items t.gone c.args.place c.entry.result.now c.links-links.result c.entry.ensures c.links-links.ensures in
    subst (λ fs. IsLineBut fs t.gone c.args.line c.last_left.result c.args.place) (sym (after c))
    (line_left c.args.line t.entries.items t.gone c.args.place c.args.last c.links-links.result.before c.links-links.result.after c.requires.member before_is after_is c.requires.line c.last_left.result c.last_left.ensures.some c.last_left.ensures.none)
