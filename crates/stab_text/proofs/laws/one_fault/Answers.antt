use Rattle.stab_text.proofs.Reading.{one_fault}
use Rattle.stab_text.proofs.laws.one_fault.Goals as goal

pub returns : goal.returns
returns c = one_fault
