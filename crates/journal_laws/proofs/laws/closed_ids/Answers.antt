use Rattle.journal_laws.proofs.Runs.{run_known}
use Rattle.journal_laws.proofs.laws.closed_ids.Goals as goal

pub returns : goal.returns
returns c = λ s r. run_known c.args.program.now s c.args.run.now r
