use Rattle.journal_laws.proofs.Chains.{chain_reached, reached_chain}
use Rattle.journal_laws.proofs.laws.reached_by_chains.Goals as goal

pub returns : goal.returns
returns c = λ before n after cut. (reached_chain c.args.run.now c.args.m.0 1 c.requires before n after cut, chain_reached c.args.run.now c.args.m.0 1 c.requires n)
