use Rattle.std.proofs.Common.{◌<◌, IsSome}
use Rattle.stab_base.specs.declared.numbers.Seq.{Seq}
use Rattle.stab_base.specs.declared.numbers.ThreadId.{ThreadId}
use Rattle.checkpoint_store.specs.Saved.{saved_at}
use Rattle.container_trial.proofs.tests.saved.first_apart.Given as goal

abbrev pub invariant-loop-q : goal.invariant-loop-q
invariant-loop-q l = (r : Seq) (u : ThreadId) → IsSome (saved_at l.store r u) → r.0 < l.q
