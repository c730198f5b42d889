use Rattle.std.proofs.Common.{◌≡◌}
use Rattle.rtrb.specs.Ring.{sent}
use Rattle.number_source.proofs.outlet.Outlet.put.Given as goal

-- nothing was put so far
abbrev pub invariant-loop : goal.invariant-loop
invariant-loop g l = record {
  can_next : (goal.iterator-loop g).can_next l.iterator';
  is_finite : (goal.iterator-loop g).is_finite l.iterator';
  same : sent l.self.queue ≡ sent l.initial.self.queue;
}
