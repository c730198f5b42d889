use Rattle.std.proofs.Common.{◌≡◌}
use Rattle.number_source.proofs.input_source.InputSource.next.Given as goal

-- no number came so far
abbrev pub invariant-loop : goal.invariant-loop
invariant-loop g l = record {
  can_next : (goal.iterator-loop g).can_next l.iterator';
  is_finite : (goal.iterator-loop g).is_finite l.iterator';
  same : l.self.came ≡ l.initial.self.came;
}
