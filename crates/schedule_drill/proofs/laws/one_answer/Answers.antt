use Rattle.schedule_drill.proofs.OneMade.{made_told}
use Rattle.schedule_drill.proofs.laws.one_answer.Goals as goal

pub returns : goal.returns
returns c = made_told
