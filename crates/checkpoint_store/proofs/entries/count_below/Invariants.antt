use Rattle.std.proofs.Common.{◌≡◌, ◌≤◌, ◌-◌, true, false, length}
use Rattle.std.specs.List.{AllWithin}
use Rattle.checkpoint_store.specs.Layout.{is_below}
use Rattle.checkpoint_store.proofs.entries.count_below.Given as goal

-- the entries before `low` are below the place, those from `high` on aren't
abbrev pub invariant-loop-low : goal.invariant-loop-low
invariant-loop-low g l = record {
  order : l.low ≤ l.high;
  within : l.high ≤ length l.entries.items;
  under : AllWithin (λ e. is_below e.place l.place ≡ true) l.entries.items 0 l.low;
  over : AllWithin (λ e. is_below e.place l.place ≡ false) l.entries.items l.high (length l.entries.items);
}

abbrev pub decreases-loop-low : goal.decreases-loop-low
decreases-loop-low g l = l.high - l.low
