use Rattle.stab_top.proofs.Complete.{good_program_is_watched}
use Rattle.stab_top.proofs.laws.good_programs_are_watched.Goals as goal

pub returns : goal.returns
returns c = good_program_is_watched
