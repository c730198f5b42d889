use Rattle.schedule_drill.proofs.OneFault.{one_fault}
use Rattle.schedule_drill.proofs.laws.one_fault.Goals as goal

pub returns : goal.returns
returns c = λ a b line alike. one_fault a b alike line
