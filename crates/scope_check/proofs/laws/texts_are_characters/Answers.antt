use Rattle.scope_check.proofs.Characters.{text-characters}
use Rattle.scope_check.proofs.laws.texts_are_characters.Goals as goal

pub returns : goal.returns
returns c = text-characters
