use Rattle.std.proofs.Common.{◌≡◌, ℕ, false, nat_eq}
use Rattle.ref_log.specs.Layout.{of_reference, settled_at, head_at, IsLiveAtEnd, IsChained}
use Rattle.ref_log.proofs.strike.pass_struck.Given as goal

-- struck writes at the end became holes
abbrev pub invariant-loop-place : goal.invariant-loop-place
invariant-loop-place l = record {
  place : l.place ≡ head_at l.references l.fn.r.0;
  chained : IsChained l.references l.recent;
  others : (s : ℕ) → nat_eq l.fn.r.0 s ≡ false → IsLiveAtEnd s l.recent;
  writes : (s : ℕ) → of_reference s l.recent ≡ of_reference s l.initial.recent;
  settled : (s : ℕ) → settled_at l.references s ≡ settled_at l.initial.references s;
}

abbrev pub decreases-loop-place : goal.decreases-loop-place
decreases-loop-place l = l.place
