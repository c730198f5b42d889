use Rattle.std.proofs.Common.{◌≡◌, length, vec_capacity}
use Rattle.ref_log.specs.Moved.{IsCutSoFar}
use Rattle.ref_log.proofs.cut.cut.Given as goal

-- the entries so far are cut, and those to come are as they were
abbrev pub invariant-loop-i : goal.invariant-loop-i
invariant-loop-i l = record {
  cut : IsCutSoFar l.q.0 l.initial.references.items l.initial.recent.items l.i l.stay l.references.items l.recent.items;
  capacity : vec_capacity l.recent ≡ vec_capacity l.initial.recent;
  upto : l.i-end ≡ length l.initial.recent.items;
}
