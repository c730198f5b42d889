use Rattle.std.proofs.Common.{◌≡◌, ◌≤◌, length}
use Rattle.std.specs.Prelude.{vec_capacity}
use Rattle.print_log.specs.Layout.{live, IsRising}
use Rattle.print_log.proofs.recent.drop_holes_at_end.Given as goal

-- only holes went
abbrev pub invariant-loop-last : goal.invariant-loop-last
invariant-loop-last l = record {
  live : live l.recent.items ≡ live l.initial.recent.items;
  rising : IsRising l.recent.items;
  capacity : vec_capacity l.recent ≡ vec_capacity l.initial.recent;
  fewer : length l.recent.items ≤ length l.initial.recent.items;
}

abbrev pub decreases-loop-last : goal.decreases-loop-last
decreases-loop-last l = length l.recent.items
