use Rattle.stab_top.proofs.OwnTraces.{trace_of_run_passes}
use Rattle.stab_top.proofs.laws.traces_of_runs_pass.Goals as goal

pub returns : goal.returns
returns c = trace_of_run_passes
