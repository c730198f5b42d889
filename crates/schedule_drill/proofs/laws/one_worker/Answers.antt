use Rattle.schedule_drill.proofs.OneWorker.{drilled_by_one}
use Rattle.schedule_drill.proofs.laws.one_worker.Goals as goal

pub returns : goal.returns
returns c = drilled_by_one
