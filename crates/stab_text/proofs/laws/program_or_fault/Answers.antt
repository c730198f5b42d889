use Rattle.stab_text.proofs.Reading.{program_or_fault}
use Rattle.stab_text.proofs.laws.program_or_fault.Goals as goal

pub returns : goal.returns
returns c = program_or_fault
