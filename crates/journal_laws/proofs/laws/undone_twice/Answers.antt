use Rattle.std.proofs.Common.{sym, ◌∙◌}
use Rattle.journal_laws.proofs.Undone.{stands_run}
use Rattle.journal_laws.proofs.laws.undone_twice.Goals as goal

pub returns-clause-left : goal.returns-clause-left
returns-clause-left c = λ events run s stands. stands_run c.args.program.now events run s stands

pub returns-clause-shown : goal.returns-clause-shown
returns-clause-shown c = λ j run s struck stands. record { stands = stands; left = struck ∙ sym (stands_run c.args.program.now j.events run s stands).0 }
