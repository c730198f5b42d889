use Rattle.stab_top.proofs.Complete.{bad_probes_refused}
use Rattle.stab_top.proofs.laws.bad_probes_are_refused.Goals as goal

pub returns : goal.returns
returns c = bad_probes_refused
