use Rattle.std.proofs.Common.{◌≡◌, ◌≤◌, ◌-◌, ◌++◌, ℤ, List, length, vec_len}
use Rattle.live_rounds.proofs.taking.take_more.Given as goal

abbrev pub invariant-loop-source : goal.invariant-loop-source
invariant-loop-source g l = record {
  within : length l.numbers.items ≤ l.most;
  came : (more : List ℤ) × (g.N.NumberSource.came l.source ≡ g.N.NumberSource.came l.fn.source ++ more) × (l.numbers.items ≡ l.fn.numbers.items ++ more);
}

abbrev pub decreases-loop-source : goal.decreases-loop-source
decreases-loop-source g l = l.most - vec_len l.numbers
