use Rattle.std.proofs.Common.{◌≡◌, ◌≤◌, ℕ, length}
use Rattle.ref_log.specs.Layout.{of_reference, spare_in, IsLinked}
use Rattle.ref_log.proofs.strike.drop_holes_at_end.Given as goal

-- only holes went
abbrev pub invariant-loop-last : goal.invariant-loop-last
invariant-loop-last l = record {
  writes : (s : ℕ) → of_reference s l.recent.items ≡ of_reference s l.initial.recent.items;
  linked : IsLinked l.references l.recent.items;
  spare : spare_in l.initial.recent ≤ spare_in l.recent;
  fewer : length l.recent.items ≤ length l.initial.recent.items;
}

abbrev pub decreases-loop-last : goal.decreases-loop-last
decreases-loop-last l = length l.recent.items
