use Rattle.std.proofs.Common.{◌≡◌, Some}
use Rattle.stab_code.specs.Valid.{head_parts}
use Rattle.stab_code.proofs.AllForms.{forms-bodies}
use Rattle.stab_code.proofs.laws.forms_fit.Goals as goal

pub returns : goal.returns
returns c = λ p valid. forms-bodies (λ head parts. head_parts p.functions head ≡ Some parts) p valid.nodes_in_order valid.parts_fit
