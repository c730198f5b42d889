use Rattle.lone_worker.proofs.OneRun.{one_desk_left, one_run}
use Rattle.lone_worker.proofs.laws.one_run.Goals as goal

pub returns-clause-events : goal.returns-clause-events
returns-clause-events c = one_run

pub returns-clause-desk : goal.returns-clause-desk
returns-clause-desk c = one_desk_left
