use Rattle.std.proofs.Common.{◌≡◌, ℕ, ◌*◌, ◌+◌, ◌-◌, false, length, get_or}
use Rattle.linked_lists.specs.Lists.{list_at}
use Rattle.rendezvous.proofs.opens.open_channels.Given as goal

abbrev pub invariant-loop-c : goal.invariant-loop-c
invariant-loop-c l = record {
  there : (k : ℕ) → get_or l.channels.items k false ≡ get_or l.fn.channels.items k false;
  lists : (h : ℕ) → list_at l.lists.lists h ≡ list_at l.fn.lists.lists h;
  many : length l.lists.lists ≡ 2 * length l.channels.items;
  places : l.lists.places ≡ l.fn.lists.places;
}

abbrev pub decreases-loop-c : goal.decreases-loop-c
decreases-loop-c l = (l.c.0 + 1) - length l.channels.items
