use Rattle.stab_top.proofs.Complete.{bad_probes_undrilled}
use Rattle.stab_top.proofs.laws.bad_probes_stop_drills.Goals as goal

pub returns : goal.returns
returns c = bad_probes_undrilled
