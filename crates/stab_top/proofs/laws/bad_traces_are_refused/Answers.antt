use Rattle.stab_top.proofs.Complete.{bad_trace_refused}
use Rattle.stab_top.proofs.laws.bad_traces_are_refused.Goals as goal

pub returns : goal.returns
returns c = bad_trace_refused
