use Rattle.std.proofs.Common.{◌≡◌, ◌<◌, ◌≤◌, ◌+◌, ◌-◌, [], ◌∷◌, ◌++◌, suc, get_or, length, sym, ap, subst, ◌∙◌, arith, add-one}
use Rattle.std.specs.List.{slice_set}
use Rattle.std.proofs.lemmas.List.{length_push}
use Rattle.own_steps.specs.declared.entries.Entry.{Entry}
use Rattle.own_steps.specs.Own.{Seen, steps_of}
use Rattle.own_steps.specs.Layout.{own_place, rows_from, spare_in, steps_to, IsLinked}
use Rattle.own_steps.proofs.Links.{linked-push}
use Rattle.own_steps.proofs.Rows.{rows-length, rows-push, seen-row}
use Rattle.own_steps.proofs.own_steps.OwnSteps.push.Goals as goal

pub index_mut-requires : goal.index_mut-requires
index_mut-requires c =
    let a = c.self.inside in
    let long = rows-length 0 a.heads.items a.entries.items in
    let same = ap (λ (s : Seen). length s.steps) c.self.view_is in
    omega (arith, a.heads.ok.0, c.requires.place)

-- the entry leads to where its thread led
before : (c : goal.After-self-1) → c.place-before.result ≡ own_place c.args.t.0 (get_or c.self.inside.heads.items c.args.t.0 0) c.self.inside.entries.items
before c =
    let t = c.args.t.0 in
    c.place-before.ensures
    ∙ ap (λ xs. own_place t (get_or xs t 0) c.deref-2.result.now) c.deref.ensures.value
    ∙ ap (own_place t (get_or c.self.inside.heads.items t 0)) c.deref-2.ensures.value

pub invariant_of-self : goal.invariant_of-self
invariant_of-self c =
    let a = c.self.inside in
    let es = a.entries.items in
    let e : Entry = record { step = c.args.step; thread = c.args.t; before = c.place-before.result } in
    let spare : spare_in a.entries ≡ c.args.self.now.spare = ap (λ (s : Seen). s.spare) c.self.view_is in
    let few : length es + 1 ≤ 4294967295 = omega (arith, c.requires.spare) in
    subst IsLinked (sym c.push_reserved.ensures.items) (linked-push es e (get_or a.heads.items c.args.t.0 0) c.self.invariant (before c) few)

pub returns : goal.returns
returns c =
    let a = c.self.inside in
    let t = c.args.t.0 in
    let es = a.entries.items in
    let hs = a.heads.items in
    let e : Entry = record { step = c.args.step; thread = c.args.t; before = c.place-before.result } in
    let old = c.args.self.now in
    let rows : rows_from 0 hs es ≡ old.steps = ap (λ (s : Seen). s.steps) c.self.view_is in
    let spare : spare_in a.entries ≡ old.spare = ap (λ (s : Seen). s.spare) c.self.view_is in
    let count : length es ≡ old.count = ap (λ (s : Seen). s.count) c.self.view_is in
    let long : length c.push_reserved.new.self.items ≡ length es + 1 = ap length c.push_reserved.ensures.items ∙ length_push es e in
    let end : c.len.result ≡ suc (length es) = c.len.ensures ∙ c.push_reserved.new.self.ok.0 ∙ long ∙ add-one (length es) in
    let inside : t < length hs = let n = rows-length 0 hs es in let same = ap length rows in omega (arith, c.requires.place) in
    let steps : rows_from 0 (slice_set hs t c.len.result) c.push_reserved.new.self.items ≡ slice_set old.steps t (steps_of old t ++ c.args.step.0 ∷ []) =
    ap (rows_from 0 (slice_set hs t c.len.result)) c.push_reserved.ensures.items
    ∙ ap (λ n. rows_from 0 (slice_set hs t n) (es ++ e ∷ [])) end
    ∙ rows-push hs es e (steps_of old t) inside (ap (λ p. steps_to (length es) p es) (before c) ∙ sym (seen-row old hs es t rows))
    ∙ ap (λ rs. slice_set rs t (steps_of old t ++ c.args.step.0 ∷ [])) rows in
    let more : length c.push_reserved.new.self.items ≡ old.count + 1 = omega arith in
    let less : spare_in c.push_reserved.new.self ≡ old.spare - 1 = omega (arith, c.push_reserved.ensures.capacity) in
    λ i. record { steps = steps i; count = more i; spare = less i }
