use Rattle.stab_code.proofs.InOrder.{node-depth}
use Rattle.stab_code.proofs.laws.no_deep_form.Goals as goal

pub returns : goal.returns
returns c = λ p valid. node-depth p valid.nodes_in_order valid.depths_within
