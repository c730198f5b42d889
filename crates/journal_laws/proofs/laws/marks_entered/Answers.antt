use Rattle.journal_laws.proofs.Runs.{sections_entered}
use Rattle.journal_laws.proofs.laws.marks_entered.Goals as goal

pub returns : goal.returns
returns c = λ s r t. sections_entered c.args.program.now s c.args.run.now r t
