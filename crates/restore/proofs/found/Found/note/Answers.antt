use Rattle.std.proofs.Common.{◌≡◌, ◌<◌, ◌∷◌, ◌++◌, [], length, vec_capacity, Some, None, sym, ap, subst, ◌∙◌, arith}
use Rattle.std.specs.FinMap as map
use Rattle.std.specs.List.{slice_set}
use Rattle.std.proofs.lemmas.List.{get_or_read}
use Rattle.restore.specs.Found.{numbers, Finding, IsFound}
use Rattle.restore.specs.Noted.{with_line}
use Rattle.restore.proofs.Finding.{at_place, numbers_push, length-numbers, set_here, set_other, few_found, found_again, found_first}
use Rattle.restore.proofs.found.Found.note.Goals as goal

pub invariant_of-self : goal.invariant_of-self
invariant_of-self c =
    let s = c.self.inside in
    let low : c.args.t.0 < length s.lines.items = subst (λ (f : Finding). c.args.t.0 < f.spare) (sym c.self.view_is) c.requires in
    found_again s.lines.items (numbers s.touched.items) (vec_capacity s.touched) c.args.t.0 c.earlier.result c.in-Some.before low
    (sym (get_or_read s.lines.items c.args.t.0 c.index.result.now low c.index.ensures None) ∙ c.in-Some.is) c.self.invariant

pub push_reserved-requires : goal.push_reserved-requires
push_reserved-requires c =
    let s = c.self.inside in
    let low : c.args.t.0 < length s.lines.items = subst (λ (f : Finding). c.args.t.0 < f.spare) (sym c.self.view_is) c.requires in
    let few = few_found s.lines.items (numbers s.touched.items) (vec_capacity s.touched) c.args.t.0 low
    (sym (get_or_read s.lines.items c.args.t.0 c.index.result.now low c.index.ensures None) ∙ c.in-None.is) c.self.invariant in
    omega (arith, few, length-numbers s.touched.items, s.touched.ok.0)

pub invariant_of-self-in-None : goal.invariant_of-self-in-None
invariant_of-self-in-None c =
    let s = c.self.inside in
    let low : c.args.t.0 < length s.lines.items = subst (λ (f : Finding). c.args.t.0 < f.spare) (sym c.self.view_is) c.requires in
    let items : numbers c.push_reserved.new.self.items ≡ numbers s.touched.items ++ c.args.t.0 ∷ [] = ap numbers c.push_reserved.ensures.items ∙ numbers_push s.touched.items c.args.t in
    let k = found_first s.lines.items (numbers s.touched.items) (vec_capacity s.touched) c.args.t.0 c.args.line low
    (sym (get_or_read s.lines.items c.args.t.0 c.index.result.now low c.index.ensures None) ∙ c.in-None.is) c.self.invariant in
    subst (λ l. IsFound (slice_set s.lines.items c.args.t.0 (Some c.args.line)) l (vec_capacity c.push_reserved.new.self)) (sym items)
    (subst (λ n. IsFound (slice_set s.lines.items c.args.t.0 (Some c.args.line)) (numbers s.touched.items ++ c.args.t.0 ∷ []) n) (sym c.push_reserved.ensures.capacity) k)

pub returns-in-Some-clause-here : goal.returns-in-Some-clause-here
returns-in-Some-clause-here c =
    let s = c.self.inside in
    let low : c.args.t.0 < length s.lines.items = subst (λ (f : Finding). c.args.t.0 < f.spare) (sym c.self.view_is) c.requires in
    set_here s.lines.items c.args.t.0 (Some c.earlier.result) low
    ∙ ap (λ l. Some l) c.earlier.ensures
    ∙ ap (with_line c.args.line) (sym (sym (ap (λ (f : Finding). map.get f.lines c.args.t.0) c.self.view_is) ∙ at_place s.lines.items c.args.t.0 ∙ sym (get_or_read s.lines.items c.args.t.0 c.index.result.now low c.index.ensures None) ∙ c.in-Some.is))

pub returns-in-Some-clause-others : goal.returns-in-Some-clause-others
returns-in-Some-clause-others c = λ u other. set_other c.self.inside.lines.items c.args.t.0 u (Some c.earlier.result) other ∙ ap (λ (f : Finding). map.get f.lines u) c.self.view_is

pub returns-in-None-clause-here : goal.returns-in-None-clause-here
returns-in-None-clause-here c =
    let s = c.self.inside in
    let low : c.args.t.0 < length s.lines.items = subst (λ (f : Finding). c.args.t.0 < f.spare) (sym c.self.view_is) c.requires in
    set_here s.lines.items c.args.t.0 (Some c.args.line) low
    ∙ ap (with_line c.args.line) (sym (sym (ap (λ (f : Finding). map.get f.lines c.args.t.0) c.self.view_is) ∙ at_place s.lines.items c.args.t.0 ∙ sym (get_or_read s.lines.items c.args.t.0 c.index.result.now low c.index.ensures None) ∙ c.in-None.is))

pub returns-in-None-clause-others : goal.returns-in-None-clause-others
returns-in-None-clause-others c = λ u other. set_other c.self.inside.lines.items c.args.t.0 u (Some c.args.line) other ∙ ap (λ (f : Finding). map.get f.lines u) c.self.view_is
