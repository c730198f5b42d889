use Rattle.schedule_drill.proofs.OneEnd.{one_end}
use Rattle.schedule_drill.proofs.laws.one_end.Goals as goal

pub returns : goal.returns
returns c = one_end
