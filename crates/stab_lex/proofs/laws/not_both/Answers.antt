use Rattle.stab_lex.proofs.Unique.{not_both}
use Rattle.stab_lex.proofs.laws.not_both.Goals as goal

pub returns : goal.returns
returns c = not_both
