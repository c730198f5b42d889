use Rattle.stab_parse.proofs.Verdicts.{program_or_fault}
use Rattle.stab_parse.proofs.laws.program_or_fault.Goals as goal

pub returns : goal.returns
returns c = program_or_fault
