use Rattle.expression_text.proofs.Back.{reads_back}
use Rattle.expression_text.proofs.Sound.{reads_sound}
use Rattle.std.proofs.Common.{[], ◌∷◌}
use Rattle.expression_text.specs.Shape.{expression}
use Rattle.expression_text.proofs.Shaped.{paid, pays}
use Rattle.expression_text.proofs.laws.texts_read_back.Goals as goal

pub returns-clause-written : goal.returns-clause-written
returns-clause-written c = reads_back

pub returns-clause-exact : goal.returns-clause-exact
returns-clause-exact c = reads_sound

pub returns-clause-shape : goal.returns-clause-shape
returns-clause-shape c = λ ws. (pays ws (expression ∷ []), paid (expression ∷ []) ws)
