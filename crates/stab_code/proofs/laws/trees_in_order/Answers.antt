use Rattle.stab_code.proofs.InOrder.{laid_out-bodies, laid_out-order}
use Rattle.stab_code.proofs.laws.trees_in_order.Goals as goal

pub returns : goal.returns
returns c = record { order = laid_out-order; bodies = laid_out-bodies }
