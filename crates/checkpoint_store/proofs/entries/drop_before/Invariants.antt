use Rattle.std.proofs.Common.{◌≡◌, ◌≤◌, None, cond, length}
use Rattle.checkpoint_store.specs.Saved.{Place, before}
use Rattle.checkpoint_store.specs.Layout.{found, spare_in, IsKept}
use Rattle.checkpoint_store.proofs.entries.drop_before.Given as goal

-- what isn't before the event is as it was
abbrev pub invariant-loop-first : goal.invariant-loop-first
invariant-loop-first g l =
    ((k : Place) → cond (before l.q k) None (found l.entries.items k) ≡ cond (before l.q k) None (found l.initial.entries.items k))
    × IsKept l.entries.items × (spare_in l.initial.entries ≤ spare_in l.entries)

abbrev pub decreases-loop-first : goal.decreases-loop-first
decreases-loop-first g l = length l.entries.items
