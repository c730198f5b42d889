use Rattle.stab_top.proofs.SavedCuts.{bad_probes_unsaved}
use Rattle.stab_top.proofs.laws.bad_probes_stop_saves.Goals as goal

pub returns : goal.returns
returns c = bad_probes_unsaved
