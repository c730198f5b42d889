use Rattle.stab_types.proofs.Runs.{never_wrong}
use Rattle.stab_types.proofs.laws.typed_programs_never_go_wrong.Goals as goal

pub returns : goal.returns
returns c = λ p valid typed. never_wrong p valid (c.forms_fit.ensures p valid) typed
