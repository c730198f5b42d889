use Rattle.stab_lex.proofs.Unique.{one_reading}
use Rattle.stab_lex.proofs.laws.one_reading.Goals as goal

pub returns : goal.returns
returns c = one_reading
