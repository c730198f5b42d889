use Rattle.std.proofs.Common.{◌≡◌, false}
use Rattle.turn_trial.proofs.workers.take_turns.Given as goal

abbrev pub invariant-loop-turn : goal.invariant-loop-turn
invariant-loop-turn g l = (l.worker.pass.floor ≡ l.initial.worker.pass.floor) × (l.worker.pass.worker ≡ l.initial.worker.pass.worker) × (l.worker.heard.spent ≡ false)
