use Rattle.std.proofs.Common.{◌≡◌}
use Rattle.turn_trial.proofs.workers.look_and_rest.Given as goal

abbrev pub invariant-loop : goal.invariant-loop
invariant-loop g l = (goal.iterator-loop g).can_next l.iterator' × (goal.iterator-loop g).is_finite l.iterator' × (l.worker.pass.floor ≡ l.initial.worker.pass.floor) × (l.worker.pass.worker ≡ l.initial.worker.pass.worker)
