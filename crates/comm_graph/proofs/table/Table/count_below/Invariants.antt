use Rattle.std.proofs.Common.{◌≡◌, ℕ, ◌<◌, ◌≤◌, ◌-◌, Some, length}
use Rattle.std.specs.List.{slice_get}
use Rattle.comm_graph.specs.declared.table.Entry.{Entry}
use Rattle.comm_graph.proofs.table.Table.count_below.Given as goal

abbrev pub invariant-loop-low : goal.invariant-loop-low
invariant-loop-low l = record {
  order : l.low ≤ l.high;
  within : l.high ≤ length l.self.entries.items;
  under : (k : ℕ) (e : Entry) → k < l.low → slice_get l.self.entries.items k ≡ Some e → e.number.0 < l.q.0;
  over : (k : ℕ) (e : Entry) → l.high ≤ k → slice_get l.self.entries.items k ≡ Some e → l.q.0 ≤ e.number.0;
}

abbrev pub decreases-loop-low : goal.decreases-loop-low
decreases-loop-low l = l.high - l.low
