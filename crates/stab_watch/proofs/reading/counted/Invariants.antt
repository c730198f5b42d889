-- The counts of the events so far.
use Rattle.std.proofs.Common.{◌≡◌, ◌≤◌, take}
use Rattle.stab_watch.specs.Counts.{undos_in, cuts_in}
use Rattle.stab_watch.proofs.reading.counted.Given as goal

abbrev pub invariant-loop-i : goal.invariant-loop-i
invariant-loop-i l =
    (l.undos ≤ l.i) × (l.cuts ≤ l.i) × (l.undos ≡ undos_in (take l.i l.history.events)) × (l.cuts ≡ cuts_in (take l.i l.history.events))
