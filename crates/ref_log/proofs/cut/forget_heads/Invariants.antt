use Rattle.std.proofs.Common.{◌≡◌, ℕ, drop}
use Rattle.ref_log.specs.Layout.{last_place, head_at, settled_at}
use Rattle.ref_log.proofs.cut.forget_heads.Given as goal

-- a reference without writes among those that are left leads to none
abbrev pub invariant-loop-entry : goal.invariant-loop-entry
invariant-loop-entry l = record {
  heads : (s : ℕ) → last_place s (drop l.entry-index l.recent) ≡ 0 → head_at l.references s ≡ 0;
  settled : (s : ℕ) → settled_at l.references s ≡ settled_at l.initial.references s;
}
