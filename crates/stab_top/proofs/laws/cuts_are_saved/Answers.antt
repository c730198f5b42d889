use Rattle.stab_top.proofs.SavedCuts.{cut_is_saved}
use Rattle.stab_top.proofs.laws.cuts_are_saved.Goals as goal

pub returns : goal.returns
returns c = cut_is_saved
