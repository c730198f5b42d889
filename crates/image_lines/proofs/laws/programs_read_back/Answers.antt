use Rattle.image_lines.proofs.OpeningLaws.{program_back, program_was}
use Rattle.image_lines.proofs.laws.programs_read_back.Goals as goal

pub returns : goal.returns
returns c = record { written = program_back; exact = program_was }
