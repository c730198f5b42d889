use Rattle.std.proofs.Common.{◌≡◌, ◌∷◌, ◌++◌, [], vec_capacity, ap, subst, ◌∙◌, arith}
use Rattle.restore.specs.Found.{numbers, IsFound}
use Rattle.restore.proofs.Finding.{numbers_push, last_listed, listed_within, found_less, none_found, no_numbers}
use Rattle.restore.proofs.found.Found.forget_last.Goals as goal

pub index_mut-requires : goal.index_mut-requires
index_mut-requires c =
    let s = c.self.inside in
    let t = c.in-Some.t in
    let items : numbers s.touched.items ≡ numbers c.pop.new.self.items ++ t.0 ∷ [] = ap numbers c.in-Some.ensures.items ∙ numbers_push c.pop.new.self.items t in
    let low = listed_within s.lines.items (numbers c.pop.new.self.items ++ t.0 ∷ []) (vec_capacity s.touched) t.0 (subst (λ l. IsFound s.lines.items l (vec_capacity s.touched)) items c.self.invariant) (last_listed (numbers c.pop.new.self.items) t.0) in
    omega (arith, low, s.lines.ok.0)

pub invariant_of-self : goal.invariant_of-self
invariant_of-self c =
    let s = c.self.inside in
    let t = c.in-Some.t in
    let items : numbers s.touched.items ≡ numbers c.pop.new.self.items ++ t.0 ∷ [] = ap numbers c.in-Some.ensures.items ∙ numbers_push c.pop.new.self.items t in
    let le = c.in-Some.ensures.capacity in
    found_less s.lines.items (numbers c.pop.new.self.items) (vec_capacity s.touched) (vec_capacity c.pop.new.self) t.0 (subst (λ l. IsFound s.lines.items l (vec_capacity s.touched)) items c.self.invariant) (omega arith)

pub returns-in-None-clause-none : goal.returns-in-None-clause-none
returns-in-None-clause-none c = λ _.
    let s = c.self.inside in
    none_found s.lines.items (numbers s.touched.items) (vec_capacity s.touched) (no_numbers s.touched.items (omega (arith, c.in-None.ensures.cases, s.touched.ok.0))) c.self.invariant
