use Rattle.stab_top.proofs.Served.{good_program_is_served}
use Rattle.stab_top.proofs.laws.good_programs_are_served.Goals as goal

pub returns : goal.returns
returns c = good_program_is_served
