use Rattle.std.proofs.Common.{◌≡◌, drop}
use Rattle.stab_journal.specs.Floor.{is_entered}
use Rattle.eval_trial.proofs.tests.law_calls.enters.Given as goal

abbrev pub invariant-loop-step : goal.invariant-loop-step
invariant-loop-step l = is_entered l.m.0 l.run ≡ is_entered l.m.0 (drop l.step-index l.run)
