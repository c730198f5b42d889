use Rattle.std.proofs.Common.{◌≡◌, length}
use Rattle.std.specs.VecDeque.{deque_capacity}
use Rattle.comm_graph.specs.Sound.{IsTrimmed}
use Rattle.comm_graph.proofs.table.Table.trim.Given as goal

abbrev pub invariant-loop : goal.invariant-loop
invariant-loop l = record {
  gone : l.self.gone ≡ l.fn.self.gone;
  trimmed : IsTrimmed l.fn.self.entries.items l.self.entries.items l.fn.self.gone;
  capacity : deque_capacity l.self.entries ≡ deque_capacity l.fn.self.entries;
}

abbrev pub decreases-loop : goal.decreases-loop
decreases-loop l = length l.self.entries.items
