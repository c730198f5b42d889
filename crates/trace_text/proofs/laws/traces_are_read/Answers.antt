use Rattle.trace_text.proofs.Once.{few}
use Rattle.trace_text.proofs.Texts.{first-read, trace-read}
use Rattle.trace_text.proofs.laws.traces_are_read.Goals as goal

pub returns-clause-second : goal.returns-clause-second
returns-clause-second c = λ j valid. trace-read j valid (few j valid)

pub returns-clause-first : goal.returns-clause-first
returns-clause-first c = λ j valid none. first-read j valid (few j valid) none
