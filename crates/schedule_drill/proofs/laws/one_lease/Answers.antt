use Rattle.schedule_drill.proofs.OneLease.{one_leased}
use Rattle.schedule_drill.proofs.laws.one_lease.Goals as goal

pub returns-clause-told : goal.returns-clause-told
returns-clause-told c = λ a b x y k s t alike la lb. (one_leased a b x y k s t alike la lb).told

pub returns-clause-alike : goal.returns-clause-alike
returns-clause-alike c = λ a b x y k s t alike la lb. (one_leased a b x y k s t alike la lb).alike
