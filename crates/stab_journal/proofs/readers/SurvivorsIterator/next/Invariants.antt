use Rattle.std.proofs.Common.{◌≡◌, suc, length}
use Rattle.stab_journal.specs.Entries.{kept_from, FitBehind}
use Rattle.stab_journal.proofs.readers.SurvivorsIterator.next.Given as goal

-- only struck steps and what is no step were passed over
abbrev pub invariant-loop-entry : goal.invariant-loop-entry
invariant-loop-entry l =
    FitBehind l.self-inside.passed l.self-inside.entries.now
    × (kept_from (suc l.self-inside.passed) l.self-inside.entries.now ≡ l.fn.self)

abbrev pub decreases-loop-entry : goal.decreases-loop-entry
decreases-loop-entry l = length l.self-inside.entries.now
