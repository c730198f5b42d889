use Rattle.std.proofs.Common.{◌≡◌, suc, length}
use Rattle.stab_journal.specs.Entries.{events_in, FitBehind}
use Rattle.stab_journal.specs.Own.{own_from}
use Rattle.stab_journal.proofs.readers.OwnIterator.next.Given as goal

-- only others' events were passed over
abbrev pub invariant-loop-entry : goal.invariant-loop-entry
invariant-loop-entry l =
    FitBehind l.self-inside.passed l.self-inside.entries.now
    × (own_from l.self-inside.worker (suc l.self-inside.passed) (events_in l.self-inside.entries.now) ≡ l.fn.self)

abbrev pub decreases-loop-entry : goal.decreases-loop-entry
decreases-loop-entry l = length l.self-inside.entries.now
