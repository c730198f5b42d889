use Rattle.stab_lex.proofs.Unique.{one_text}
use Rattle.stab_lex.proofs.laws.one_text.Goals as goal

pub returns : goal.returns
returns c = one_text
