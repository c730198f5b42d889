use Rattle.std.proofs.Common.{drop}
use Rattle.stab_journal.specs.Journal.{RiseFrom}
use Rattle.eval_trial.proofs.tests.law_calls.rises.Given as goal

abbrev pub invariant-loop-step : goal.invariant-loop-step
invariant-loop-step l = RiseFrom l.next (drop l.step-index l.run) → RiseFrom 1 l.run
