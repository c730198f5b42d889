use Rattle.stab_top.proofs.Headline.{run_is_drill}
use Rattle.stab_top.proofs.laws.runs_by_one_worker_are_drills.Goals as goal

pub returns : goal.returns
returns c = run_is_drill
