use Rattle.std.proofs.Common.{◌≡◌, ◌+◌, ◌≤◌, ◌++◌, length, take}
use Rattle.std.specs.Vec.{vec_capacity, vec_len}
use Rattle.flat_lists.proofs.lists.append.Given as goal

abbrev pub invariant-loop-item : goal.invariant-loop-item
invariant-loop-item g l = record {
  so_far : l.items.items ≡ l.fn.items.items ++ take l.item-index l.more;
  room : vec_len l.items + length l.more ≤ vec_capacity l.items + l.item-index;
}
