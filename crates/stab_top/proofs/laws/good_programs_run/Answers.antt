use Rattle.stab_top.proofs.Complete.{good_program_runs}
use Rattle.stab_top.proofs.laws.good_programs_run.Goals as goal

pub returns : goal.returns
returns c = good_program_runs
