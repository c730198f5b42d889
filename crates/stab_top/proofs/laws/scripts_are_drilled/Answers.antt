use Rattle.stab_top.proofs.Complete.{script_is_drilled}
use Rattle.stab_top.proofs.laws.scripts_are_drilled.Goals as goal

pub returns : goal.returns
returns c = script_is_drilled
