use Rattle.std.proofs.Common.{◌≡◌, ◌≤◌, ◌-◌, Some, get_or, length, slice_get, refl, sym, ap, ◌∙◌, arith}
use Rattle.std.proofs.lemmas.Option.{slice_get_read}
use Rattle.own_steps.specs.Own.{Seen, last_step}
use Rattle.own_steps.specs.Layout.{own_place, row}
use Rattle.own_steps.proofs.Links.{own-within, row-none}
use Rattle.own_steps.proofs.Rows.{last-end, row-end, seen-row}
use Rattle.own_steps.proofs.own_steps.OwnSteps.last.Goals as goal

place : (c : goal.Else-place-eq0) → own_place c.args.t.0 (get_or c.self.inside.heads.items c.args.t.0 0) c.self.inside.entries.items ≡ c.place-place.result
place c =
    let t = c.args.t.0 in
    sym (c.place-place.ensures
    ∙ ap (λ xs. own_place t (get_or xs t 0) c.deref-2.result.now) c.deref.ensures.value
    ∙ ap (own_place t (get_or c.self.inside.heads.items t 0)) c.deref-2.ensures.value)

pub returns-then-place-eq0 : goal.returns-then-place-eq0
returns-then-place-eq0 c =
    let a = c.self.inside in
    let t = c.args.t.0 in
    let none : own_place t (get_or a.heads.items t 0) a.entries.items ≡ 0 =
    sym (ap (λ xs. own_place t (get_or xs t 0) c.deref-2.result.now) c.deref.ensures.value ∙ ap (own_place t (get_or a.heads.items t 0)) c.deref-2.ensures.value)
    ∙ sym c.place-place.ensures ∙ c.if-place-eq0.true in
    sym (ap last_step (seen-row c.args.self.now a.heads.items a.entries.items t (ap (λ (s : Seen). s.steps) c.self.view_is) ∙ row-none t (get_or a.heads.items t 0) a.entries.items none))

pub index-requires : goal.index-requires
index-requires c =
    let a = c.self.inside in
    let t = c.args.t.0 in
    let within = own-within t (get_or a.heads.items t 0) a.entries.items in
    let is = place c in
    omega (arith, a.entries.ok.0)

pub returns : goal.returns
returns c =
    let a = c.self.inside in
    let t = c.args.t.0 in
    let es = a.entries.items in
    let e = c.index.result.now in
    let n = c.place-place.result in
    let is : own_place t (get_or a.heads.items t 0) es ≡ n =
    sym (c.place-place.ensures
    ∙ ap (λ xs. own_place t (get_or xs t 0) c.deref-2.result.now) c.deref.ensures.value
    ∙ ap (own_place t (get_or a.heads.items t 0)) c.deref-2.ensures.value) in
    let some : 1 ≤ n = omega (arith, c.if-place-eq0.false) in
    let within = own-within t (get_or a.heads.items t 0) es in
    let at : slice_get es (n - 1) ≡ Some e = slice_get_read es (length es) (n - 1) e refl (omega arith) c.index.ensures in
    sym (ap last_step (seen-row c.args.self.now a.heads.items es t (ap (λ (s : Seen). s.steps) c.self.view_is) ∙ row-end t (get_or a.heads.items t 0) n es e c.self.invariant is some at)
    ∙ last-end (row t e.before es) e.step.0)
