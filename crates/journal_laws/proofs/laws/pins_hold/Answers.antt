use Rattle.journal_laws.proofs.Held.{pins_hold}
use Rattle.journal_laws.proofs.laws.pins_hold.Goals as goal

pub returns : goal.returns
returns c = λ h before e after cut pin is chain. pins_hold c.args.run.now c.args.m.0 c.requires h before e after cut pin is chain
