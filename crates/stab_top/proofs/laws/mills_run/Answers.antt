use Rattle.stab_top.proofs.Complete.{mill_runs}
use Rattle.stab_top.proofs.laws.mills_run.Goals as goal

pub returns : goal.returns
returns c = mill_runs
