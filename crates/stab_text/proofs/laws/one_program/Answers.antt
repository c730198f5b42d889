use Rattle.stab_text.proofs.Reading.{one_program}
use Rattle.stab_text.proofs.laws.one_program.Goals as goal

pub returns : goal.returns
returns c = one_program
