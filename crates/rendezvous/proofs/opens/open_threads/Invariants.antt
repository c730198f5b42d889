use Rattle.std.proofs.Common.{◌≡◌, ℕ, ◌*◌, ◌+◌, ◌-◌, ◌≤◌, None, length, get_or}
use Rattle.rendezvous.proofs.opens.open_threads.Given as goal

abbrev pub invariant-loop-t : goal.invariant-loop-t
invariant-loop-t l = record {
  offers : (u : ℕ) → get_or l.offers.items u None ≡ get_or l.fn.offers.items u None;
  lists : l.lists.lists ≡ l.fn.lists.lists;
  nodes : l.lists.places ≡ 2 * length l.offers.items;
  few : length l.offers.items ≤ 4294967296;
}

abbrev pub decreases-loop-t : goal.decreases-loop-t
decreases-loop-t l = (l.t.0 + 1) - length l.offers.items
