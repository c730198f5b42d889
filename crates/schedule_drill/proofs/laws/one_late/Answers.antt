use Rattle.schedule_drill.proofs.OneCommit.{one_late}
use Rattle.schedule_drill.proofs.laws.one_late.Goals as goal

pub returns : goal.returns
returns c = one_late
