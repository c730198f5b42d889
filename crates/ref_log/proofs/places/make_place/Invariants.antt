use Rattle.std.proofs.Common.{◌≡◌, ◌+◌, ℕ, vec_len, vec_capacity}
use Rattle.ref_log.specs.Layout.{head_at, settled_at}
use Rattle.ref_log.proofs.places.make_place.Given as goal

-- empty places joined
abbrev pub invariant-loop : goal.invariant-loop
invariant-loop l = record {
  settled : (s : ℕ) → settled_at l.references.items s ≡ settled_at l.initial.references.items s;
  heads : (s : ℕ) → head_at l.references.items s ≡ head_at l.initial.references.items s;
  len : vec_len l.references ≡ vec_len l.initial.references + l.counter;
  capacity : vec_capacity l.references ≡ vec_capacity l.initial.references;
}
