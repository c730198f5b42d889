use Rattle.stab_parse.proofs.Verdicts.{not_both}
use Rattle.stab_parse.proofs.laws.not_both.Goals as goal

pub returns : goal.returns
returns c = not_both
