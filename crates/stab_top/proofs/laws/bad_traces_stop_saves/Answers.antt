use Rattle.stab_top.proofs.SavedCuts.{bad_trace_unsaved}
use Rattle.stab_top.proofs.laws.bad_traces_stop_saves.Goals as goal

pub returns : goal.returns
returns c = bad_trace_unsaved
