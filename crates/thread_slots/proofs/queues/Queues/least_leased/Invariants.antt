use Rattle.std.proofs.Common.{◌≡◌, ℕ, ◌≤◌, true, false, length}
use Rattle.linked_lists.specs.Lists.{is_listed, following, list_at}
use Rattle.thread_slots.proofs.queues.Queues.least_leased.Given as goal

-- the least of those up to here
abbrev pub invariant-loop-place : goal.invariant-loop-place
invariant-loop-place l = record {
  here : is_listed l.at (list_at l.self-inside.lists.lists 1) ≡ true;
  listed : is_listed l.least (list_at l.self-inside.lists.lists 1) ≡ true;
  least : (u : ℕ) → is_listed u (list_at l.self-inside.lists.lists 1) ≡ true → is_listed u (following l.at (list_at l.self-inside.lists.lists 1)) ≡ false → l.least ≤ u;
}

abbrev pub decreases-loop-place : goal.decreases-loop-place
decreases-loop-place l = length (following l.at (list_at l.self-inside.lists.lists 1))
