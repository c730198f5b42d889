use Rattle.journal_laws.proofs.Held.{cuts_hold}
use Rattle.journal_laws.proofs.laws.cuts_hold.Goals as goal

pub returns : goal.returns
returns c = λ h q r. cuts_hold c.args.run.now c.args.m.0 q c.requires h r
