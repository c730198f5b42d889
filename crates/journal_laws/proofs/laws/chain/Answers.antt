use Rattle.std.proofs.Common.{arith}
use Rattle.journal_laws.proofs.Numbers.{not_below}
use Rattle.journal_laws.proofs.laws.chain.Goals as goal

pub returns : goal.returns
returns c = λ n chain at. omega (arith, not_below c.args.run.now 1 c.args.e.0 c.requires n chain)
