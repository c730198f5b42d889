use Rattle.stab_top.proofs.Complete.{run_with_bad_probes}
use Rattle.stab_top.proofs.laws.bad_probes_stop_runs.Goals as goal

pub returns : goal.returns
returns c = run_with_bad_probes
