use Rattle.std.proofs.Common.{◌≡◌, ◌+◌, ◌≤◌, ◌++◌, length, map}
use Rattle.std.specs.Vec.{vec_capacity}
use Rattle.std.specs.Vec.Iter.{into_iter_items}
use Rattle.worker_lease.proofs.round.passes_of.Given as goal

abbrev pub invariant-loop-cell : goal.invariant-loop-cell
invariant-loop-cell g l =
    (l.passes.items ++ map (λ c. c.pass) (into_iter_items l.cell-iterator) ≡ map (λ c. c.pass) l.fn.cells.items)
    × (length l.passes.items + length (into_iter_items l.cell-iterator) ≤ vec_capacity l.passes)
