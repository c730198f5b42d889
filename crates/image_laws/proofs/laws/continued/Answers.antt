use Rattle.image_laws.proofs.Continuing.{continued}
use Rattle.image_laws.proofs.laws.continued.Goals as goal

pub returns : goal.returns
returns c = λ p script events since image s at on. continued p script events since image s at on
