use Rattle.ref_log.proofs.Found.{IsPassed}
use Rattle.ref_log.proofs.strike.find.Given as goal

-- the write is the one at the place or before it
abbrev pub invariant-loop-place : goal.invariant-loop-place
invariant-loop-place l = record {
  passed : IsPassed l.recent l.fn.r.0 l.q.0 l.place;
}

abbrev pub decreases-loop-place : goal.decreases-loop-place
decreases-loop-place l = l.place
