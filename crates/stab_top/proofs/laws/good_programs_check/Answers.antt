use Rattle.stab_top.proofs.Complete.{good_program_checks}
use Rattle.stab_top.proofs.laws.good_programs_check.Goals as goal

pub returns : goal.returns
returns c = good_program_checks
