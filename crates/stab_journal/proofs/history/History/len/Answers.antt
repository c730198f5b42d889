use Rattle.stab_journal.proofs.Surviving.{are_survivors}
use Rattle.stab_journal.proofs.history.History.len.Goals as goal

pub returns-clause-survivors : goal.returns-clause-survivors
returns-clause-survivors c = are_survivors c.args.self.now
