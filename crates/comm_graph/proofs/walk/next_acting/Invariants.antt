use Rattle.std.proofs.Common.{◌+◌, ◌-◌, cond, nat_eq, length}
use Rattle.comm_graph.specs.Walk.{IsAhead}
use Rattle.comm_graph.proofs.walk.next_acting.Given as goal

abbrev pub invariant-loop-at : goal.invariant-loop-at
invariant-loop-at l = IsAhead l.table.entries.items l.table.gone (length l.tails.items) l.t.0 l.place l.at

abbrev pub decreases-loop-at : goal.decreases-loop-at
decreases-loop-at l = cond (nat_eq l.at 0) 0 (l.table.gone + length l.table.entries.items + 1 - l.at)
