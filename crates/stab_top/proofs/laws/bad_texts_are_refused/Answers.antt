use Rattle.stab_top.proofs.Complete.{bad_text_refused}
use Rattle.stab_top.proofs.laws.bad_texts_are_refused.Goals as goal

pub returns : goal.returns
returns c = bad_text_refused
