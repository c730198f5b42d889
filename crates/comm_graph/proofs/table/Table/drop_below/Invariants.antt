use Rattle.std.proofs.Common.{◌≡◌, length}
use Rattle.std.specs.VecDeque.{deque_capacity}
use Rattle.comm_graph.specs.Sound.{IsDropped}
use Rattle.comm_graph.proofs.table.Table.drop_below.Given as goal

abbrev pub invariant-loop-live : goal.invariant-loop-live
invariant-loop-live l = record {
  dropped : IsDropped l.fn.self.entries.items l.fn.self.gone l.self.entries.items l.self.gone l.q.0 l.total;
  capacity : deque_capacity l.self.entries ≡ deque_capacity l.fn.self.entries;
}

abbrev pub decreases-loop-live : goal.decreases-loop-live
decreases-loop-live l = length l.self.entries.items
