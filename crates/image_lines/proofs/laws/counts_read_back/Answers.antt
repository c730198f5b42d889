use Rattle.image_lines.proofs.CountsLaws.{counts_back, counts_was}
use Rattle.image_lines.proofs.laws.counts_read_back.Goals as goal

pub returns-clause-written : goal.returns-clause-written
returns-clause-written c = counts_back

pub returns-clause-exact : goal.returns-clause-exact
returns-clause-exact c = counts_was
