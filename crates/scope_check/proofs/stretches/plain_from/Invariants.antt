use Rattle.std.proofs.Common.{◌≡◌, length}
use Rattle.scope_check.specs.Stretches.{ArePlainFrom, IsPlainFrom}
use Rattle.scope_check.proofs.stretches.plain_from.Given as goal

abbrev pub invariant-loop-i : goal.invariant-loop-i
invariant-loop-i l = record {
  count : length l.numbers.items ≡ l.i;
  marked : ArePlainFrom l.forms l.numbers.items;
  next : IsPlainFrom l.forms l.i l.first;
}
