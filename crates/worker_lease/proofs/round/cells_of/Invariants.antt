use Rattle.std.proofs.Common.{◌≡◌, ◌+◌, ◌≤◌, ◌++◌, length, map}
use Rattle.std.specs.Vec.{vec_capacity}
use Rattle.std.specs.Vec.Iter.{into_iter_items}
use Rattle.worker_lease.proofs.round.cells_of.Given as goal

abbrev pub invariant-loop-pass : goal.invariant-loop-pass
invariant-loop-pass g l =
    (map (λ c. c.pass) l.cells.items ++ into_iter_items l.pass-iterator ≡ l.fn.passes.items)
    × (length l.cells.items + length (into_iter_items l.pass-iterator) ≤ vec_capacity l.cells)
