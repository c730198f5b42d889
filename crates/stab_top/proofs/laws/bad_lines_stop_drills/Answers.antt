use Rattle.stab_top.proofs.Complete.{bad_line_is_refused}
use Rattle.stab_top.proofs.laws.bad_lines_stop_drills.Goals as goal

pub returns : goal.returns
returns c = bad_line_is_refused
