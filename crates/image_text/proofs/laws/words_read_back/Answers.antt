use Rattle.std.proofs.Common.{length, arith}
use Rattle.image_text.proofs.WordsRead.{all_were}
use Rattle.image_text.proofs.WordsWritten.{all_written}
use Rattle.image_text.proofs.laws.words_read_back.Goals as goal

pub returns-clause-written : goal.returns-clause-written
returns-clause-written c = all_written

pub returns-clause-exact : goal.returns-clause-exact
returns-clause-exact c = λ ps r e whole. all_were (length ps) ps r (omega arith) e whole
