use Rattle.stab_parse.proofs.Reading.{one_program}
use Rattle.stab_parse.proofs.laws.one_syntax.Goals as goal

pub returns : goal.returns
returns c = one_program
