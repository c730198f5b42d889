use Rattle.stab_top.proofs.TypesFound.{types_told}
use Rattle.stab_top.proofs.laws.types_are_told.Goals as goal

pub returns : goal.returns
returns c = types_told
