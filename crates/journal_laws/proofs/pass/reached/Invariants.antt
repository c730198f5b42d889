use Rattle.std.proofs.Common.{◌≡◌, ◌++◌, drop, map}
use Rattle.stab_journal.specs.Reached.{reached, reached_from}
use Rattle.journal_laws.specs.Pass.{lost_in}
use Rattle.journal_laws.proofs.pass.reached.Given as goal

abbrev pub invariant-loop-step : goal.invariant-loop-step
invariant-loop-step l = reached l.run l.m.0 ≡ map (λ s. s.0) l.found.items ++ reached_from l.m.0 (lost_in l.threads.keys l.references.keys) (drop l.step-index l.run)
