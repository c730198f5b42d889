use Rattle.stab_text.proofs.Reading.{not_both}
use Rattle.stab_text.proofs.laws.not_both.Goals as goal

pub returns : goal.returns
returns c = not_both
