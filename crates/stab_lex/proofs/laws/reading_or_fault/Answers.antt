use Rattle.stab_lex.proofs.Total.{reading_or_fault}
use Rattle.stab_lex.proofs.laws.reading_or_fault.Goals as goal

pub returns : goal.returns
returns c = reading_or_fault
