use Rattle.stab_lex.proofs.Unique.{one_fault}
use Rattle.stab_lex.proofs.laws.one_fault.Goals as goal

pub returns : goal.returns
returns c = one_fault
