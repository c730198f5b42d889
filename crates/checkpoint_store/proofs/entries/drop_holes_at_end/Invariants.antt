use Rattle.std.proofs.Common.{◌≡◌, ◌≤◌, length}
use Rattle.checkpoint_store.specs.Saved.{Place}
use Rattle.checkpoint_store.specs.Layout.{places_of, found, spare_in, Rises}
use Rattle.checkpoint_store.proofs.entries.drop_holes_at_end.Given as goal

-- only holes went
abbrev pub invariant-loop-last : goal.invariant-loop-last
invariant-loop-last g l =
    ((k : Place) → found l.entries.items k ≡ found l.initial.entries.items k)
    × Rises (places_of l.entries.items) × (spare_in l.initial.entries ≤ spare_in l.entries)

abbrev pub decreases-loop-last : goal.decreases-loop-last
decreases-loop-last g l = length l.entries.items
