use Rattle.stab_parse.proofs.Verdicts.{one_fault}
use Rattle.stab_parse.proofs.laws.one_fault.Goals as goal

pub returns : goal.returns
returns c = one_fault
