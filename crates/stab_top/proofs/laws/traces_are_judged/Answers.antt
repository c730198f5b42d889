use Rattle.stab_top.proofs.Complete.{trace_is_judged}
use Rattle.stab_top.proofs.laws.traces_are_judged.Goals as goal

pub returns : goal.returns
returns c = trace_is_judged
