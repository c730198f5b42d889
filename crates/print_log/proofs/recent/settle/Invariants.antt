use Rattle.std.proofs.Common.{◌≡◌, ◌++◌, length, take, drop}
use Rattle.std.specs.Prelude.{vec_capacity}
use Rattle.print_log.proofs.Entries.{values_in}
use Rattle.print_log.proofs.recent.settle.Given as goal

-- the values of the first i prints were moved
abbrev pub invariant-loop-i : goal.invariant-loop-i
invariant-loop-i l = record {
  finals : l.finals.items ≡ l.fn.finals.items ++ values_in (take l.i l.fn.recent.items);
  more : drop l.i l.recent.items ≡ drop l.i l.fn.recent.items;
  long : length l.recent.items ≡ length l.fn.recent.items;
  room : vec_capacity l.finals ≡ vec_capacity l.fn.finals;
  capacity : vec_capacity l.recent ≡ vec_capacity l.fn.recent;
}
