-- The steps so far are divided.
use Rattle.std.proofs.Common.{drop}
use Rattle.stab_journal.specs.Names.{has}
use Rattle.stab_journal.specs.Reached.{reached}
use Rattle.journal_laws.specs.Pass.{lost_in}
use Rattle.journal_laws.proofs.Dividing.{IsDivided}
use Rattle.journal_laws.proofs.pass.divide.Given as goal

abbrev pub invariant-loop-step : goal.invariant-loop-step
invariant-loop-step l = IsDivided l.m.0 (has (reached l.run l.m.0)) l.run l.stays.items l.goes.items (drop l.step-index l.run) (lost_in l.threads.keys l.references.keys)
