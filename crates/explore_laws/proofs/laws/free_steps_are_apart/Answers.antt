use Rattle.language.specs.Plain.{language_of}
use Rattle.explore_laws.proofs.FreeSteps.{free_apart}
use Rattle.explore_laws.proofs.laws.free_steps_are_apart.Goals as goal

pub returns : goal.returns
returns c = λ p s a b q r k l free opened first second. free_apart (language_of p) s q r k l a b free opened first second
