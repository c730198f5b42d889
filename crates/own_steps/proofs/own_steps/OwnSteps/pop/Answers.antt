use Rattle.std.proofs.Common.{◌≡◌, ◌≤◌, ◌-◌, [], Some, get_or, length, slice_get, refl, sym, ap, ◌∙◌, arith}
use Rattle.std.specs.List.{slice_set}
use Rattle.std.proofs.lemmas.Option.{slice_get_read}
use Rattle.own_steps.specs.Own.{Seen, but_last, steps_of}
use Rattle.own_steps.specs.Layout.{own_place, row, rows_from}
use Rattle.own_steps.proofs.Links.{own-within, row-none}
use Rattle.own_steps.proofs.Rows.{rows-pop, rows-same, seen-row, set-self}
use Rattle.own_steps.proofs.own_steps.OwnSteps.pop.Goals as goal

pub returns-then-place-gt0-clause-steps : goal.returns-then-place-gt0-clause-steps
returns-then-place-gt0-clause-steps c =
    let a = c.self.inside in
    let t = c.args.t.0 in
    let es = a.entries.items in
    let hs = a.heads.items in
    let e = c.index.result.now in
    let n = c.place-place.result in
    let old = c.args.self.now in
    let rows : rows_from 0 hs es ≡ old.steps = ap (λ (s : Seen). s.steps) c.self.view_is in
    let is : own_place t (get_or hs t 0) es ≡ n =
    sym (c.place-place.ensures
    ∙ ap (λ xs. own_place t (get_or xs t 0) c.deref-2.result.now) c.deref.ensures.value
    ∙ ap (own_place t (get_or hs t 0)) c.deref-2.ensures.value) in
    let some : 1 ≤ n = omega (arith, c.if-place-gt0.true) in
    let within = own-within t (get_or hs t 0) es in
    let at : slice_get es (n - 1) ≡ Some e = slice_get_read es (length es) (n - 1) e refl (omega arith) c.index.ensures in
    rows-same 0 (slice_set hs t e.before) c.drop_unused.new.entries.items es (λ i m here.
    let same : i ≡ m = omega arith in
    ap (λ k. row k (get_or (slice_set hs t e.before) i 0) c.drop_unused.new.entries.items) (sym same)
    ∙ ap (λ xs. row i (get_or xs i 0) c.drop_unused.new.entries.items) (sym c.deref-then-place-gt0.ensures.value)
    ∙ c.drop_unused.ensures.rows i
    ∙ ap (λ xs. row i (get_or xs i 0) es) c.deref-then-place-gt0.ensures.value
    ∙ ap (λ k. row k (get_or (slice_set hs t e.before) i 0) es) same)
    ∙ rows-pop hs es t n e c.self.invariant is some at
    ∙ ap (λ qs. slice_set (rows_from 0 hs es) t (but_last qs)) (sym (seen-row old hs es t rows))
    ∙ ap (λ rs. slice_set rs t (but_last (steps_of old t))) rows

pub returns-else-place-gt0-clause-steps : goal.returns-else-place-gt0-clause-steps
returns-else-place-gt0-clause-steps c =
    let a = c.self.inside in
    let t = c.args.t.0 in
    let es = a.entries.items in
    let hs = a.heads.items in
    let old = c.args.self.now in
    let rows : rows_from 0 hs es ≡ old.steps = ap (λ (s : Seen). s.steps) c.self.view_is in
    let zero : c.place-place.result ≡ 0 = omega (arith, c.if-place-gt0.false) in
    let none : own_place t (get_or hs t 0) es ≡ 0 =
    sym (ap (λ xs. own_place t (get_or xs t 0) c.deref-2.result.now) c.deref.ensures.value ∙ ap (own_place t (get_or hs t 0)) c.deref-2.ensures.value)
    ∙ sym c.place-place.ensures ∙ zero in
    let empty : steps_of old t ≡ [] = seen-row old hs es t rows ∙ row-none t (get_or hs t 0) es none in
    sym (ap (λ qs. slice_set old.steps t (but_last qs)) empty ∙ ap (slice_set old.steps t) (sym empty) ∙ set-self old.steps t)
