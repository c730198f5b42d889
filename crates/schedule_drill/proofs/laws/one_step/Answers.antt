use Rattle.schedule_drill.proofs.OneStep.{one_step}
use Rattle.schedule_drill.proofs.laws.one_step.Goals as goal

pub returns-clause-told : goal.returns-clause-told
returns-clause-told c = λ a b x y k s t h i alike one sa sb. (one_step a b x y k s t h i alike one sa sb).told

pub returns-clause-alike : goal.returns-clause-alike
returns-clause-alike c = λ a b x y k s t h i alike one sa sb. (one_step a b x y k s t h i alike one sa sb).alike
