use Rattle.stab_lex.proofs.TextTokens.{texts_are_quoted}
use Rattle.stab_lex.proofs.laws.texts_are_quoted.Goals as goal

pub returns : goal.returns
returns c = texts_are_quoted
