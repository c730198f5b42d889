use Rattle.std.proofs.Common.{◌≡◌, ◌≤◌, ℕ, get_or, length}
use Rattle.own_steps.specs.Layout.{row, spare_in, IsLinked}
use Rattle.own_steps.proofs.entries.drop_unused.Given as goal

-- only entries went to which no thread leads
abbrev pub invariant-loop-last : goal.invariant-loop-last
invariant-loop-last l = record {
  rows : (t : ℕ) → row t (get_or l.heads t 0) l.entries.items ≡ row t (get_or l.heads t 0) l.initial.entries.items;
  linked : IsLinked l.entries.items;
  fewer : length l.entries.items ≤ length l.initial.entries.items;
  spare : spare_in l.initial.entries ≤ spare_in l.entries;
}

abbrev pub decreases-loop-last : goal.decreases-loop-last
decreases-loop-last l = length l.entries.items
