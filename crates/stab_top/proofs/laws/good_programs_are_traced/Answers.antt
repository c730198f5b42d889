use Rattle.stab_top.proofs.Complete.{good_program_is_traced}
use Rattle.stab_top.proofs.laws.good_programs_are_traced.Goals as goal

pub returns : goal.returns
returns c = good_program_is_traced
