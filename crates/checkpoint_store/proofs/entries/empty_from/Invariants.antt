use Rattle.std.proofs.Common.{◌≡◌, None, cond, length}
use Rattle.std.specs.List.{AllWithin}
use Rattle.checkpoint_store.specs.Saved.{Place, at}
use Rattle.checkpoint_store.specs.Layout.{places_of, found, spare_in}
use Rattle.checkpoint_store.proofs.entries.empty_from.Given as goal

-- the entries from the i-th to here are holes, and all else is as it was
abbrev pub invariant-loop-k : goal.invariant-loop-k
invariant-loop-k g l = record {
  left : (x : Place) → cond (at l.q x) None (found l.entries.items x) ≡ cond (at l.q x) None (found l.initial.entries.items x);
  holes : AllWithin (λ e. e.control ≡ None) l.entries.items l.i l.k;
  places : places_of l.entries.items ≡ places_of l.initial.entries.items;
  length_is : length l.entries.items ≡ length l.initial.entries.items;
  spare : spare_in l.entries ≡ spare_in l.initial.entries;
  upto : l.k-end ≡ length l.entries.items;
}
