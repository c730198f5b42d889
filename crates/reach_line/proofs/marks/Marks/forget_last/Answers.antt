use Rattle.std.proofs.Common.{◌≡◌, ◌-◌, ◌≤◌, ◌<◌, ◌+◌, ◌++◌, ◌∷◌, [], length, vec_capacity, sym, ap, subst, ◌∙◌, arith}
use Rattle.reach_line.specs.MarkList.{IsKept, numbers}
use Rattle.reach_line.proofs.Marking.{kept_less, last_within, numbers_push}
use Rattle.reach_line.proofs.marks.Marks.forget_last.Goals as goal

pub overflow_sub-q : goal.overflow_sub-q
overflow_sub-q c =
    let s = c.self.inside in
    let q = c.in-Some.q in
    let items : numbers s.nodes.items ≡ numbers c.pop.new.self.items ++ q.0 ∷ [] = ap numbers c.in-Some.ensures.items ∙ numbers_push c.pop.new.self.items q in
    (last_within (numbers c.pop.new.self.items) s.lowest q.0 s.seen.items (vec_capacity s.nodes) (subst (λ l. IsKept l s.lowest s.seen.items (vec_capacity s.nodes)) items c.self.invariant)).0

pub index_mut-requires : goal.index_mut-requires
index_mut-requires c =
    let s = c.self.inside in
    let q = c.in-Some.q in
    let items : numbers s.nodes.items ≡ numbers c.pop.new.self.items ++ q.0 ∷ [] = ap numbers c.in-Some.ensures.items ∙ numbers_push c.pop.new.self.items q in
    let w = last_within (numbers c.pop.new.self.items) s.lowest q.0 s.seen.items (vec_capacity s.nodes) (subst (λ l. IsKept l s.lowest s.seen.items (vec_capacity s.nodes)) items c.self.invariant) in
    omega (arith, w.0, w.1, s.seen.ok.0)

pub invariant_of-self : goal.invariant_of-self
invariant_of-self c =
    let s = c.self.inside in
    let q = c.in-Some.q in
    let items : numbers s.nodes.items ≡ numbers c.pop.new.self.items ++ q.0 ∷ [] = ap numbers c.in-Some.ensures.items ∙ numbers_push c.pop.new.self.items q in
    let le = c.in-Some.ensures.capacity in
    kept_less (numbers c.pop.new.self.items) s.lowest q.0 s.seen.items (vec_capacity s.nodes) (vec_capacity c.pop.new.self) (subst (λ l. IsKept l s.lowest s.seen.items (vec_capacity s.nodes)) items c.self.invariant) (omega arith)
