use Rattle.std.proofs.Common.{◌≡◌, length}
use Rattle.reach_line.proofs.marks.Marks.clear.Given as goal

abbrev pub invariant-loop : goal.invariant-loop
invariant-loop l = record {
  lowest : l.self.lowest ≡ l.fn.self.lowest;
  beyond : l.self.beyond ≡ l.fn.self.beyond;
}

abbrev pub decreases-loop : goal.decreases-loop
decreases-loop l = length l.self.nodes
