use Rattle.std.proofs.Common.{vec_capacity, rules}
use Rattle.std.proofs.lemmas.List.Sorted.{IsNonDecreasingBy-from_sort_by_key}
use Rattle.stab_base.specs.declared.numbers.ThreadId.{ThreadId}
use Rattle.restore.proofs.Finding.{found_sorted, sorted_touched}
use Rattle.restore.proofs.found.Found.sort.Goals as goal

pub invariant_of-self : goal.invariant_of-self
invariant_of-self c =
    let s = c.self.inside in
    found_sorted s.lines.items s.touched.items c.sort_unstable_by_key.new.self.items (vec_capacity s.touched) (vec_capacity c.sort_unstable_by_key.new.self) c.sort_unstable_by_key.ensures.permutation c.sort_unstable_by_key.ensures.capacity c.self.invariant

pub returns-clause-touched : goal.returns-clause-touched
returns-clause-touched c =
    let s = c.self.inside in
    sorted_touched s.lines.items s.touched.items c.sort_unstable_by_key.new.self.items (vec_capacity s.touched) c.sort_unstable_by_key.ensures.permutation
    (IsNonDecreasingBy-from_sort_by_key (λ (t : ThreadId). t.0) _ c.sort_unstable_by_key.ensures.sorted (λ a r q k. search rules)) c.self.invariant
