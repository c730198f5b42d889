use Rattle.scope_check.proofs.BlockLets.{block-kept, block-lets}
use Rattle.scope_check.proofs.laws.blocks_have_their_lets.Goals as goal

pub returns-clause-kept : goal.returns-clause-kept
returns-clause-kept c = block-kept

pub returns-clause-lets : goal.returns-clause-lets
returns-clause-lets c = block-lets
