use Rattle.language.specs.Plain.{language_of}
use Rattle.explore_laws.proofs.Commuting.{commute}
use Rattle.explore_laws.proofs.laws.steps_commute.Goals as goal

pub returns : goal.returns
returns c = λ p s a b q r k l apart first second. commute (language_of p) s a b q r k l apart first second
