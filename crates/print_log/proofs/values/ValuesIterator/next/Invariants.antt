use Rattle.std.proofs.Common.{◌≡◌, ◌++◌, length}
use Rattle.print_log.proofs.Entries.{values_in}
use Rattle.print_log.proofs.values.ValuesIterator.next.Given as goal

-- only holes were passed over
abbrev pub invariant-loop-entry : goal.invariant-loop-entry
invariant-loop-entry l = record {
  none : length l.self-inside.finals.now ≡ 0;
  left : l.fn.self ≡ l.self-inside.finals.now ++ values_in l.self-inside.recent.now;
}

abbrev pub decreases-loop-entry : goal.decreases-loop-entry
decreases-loop-entry l = length l.self-inside.recent.now
