use Rattle.trace_text.proofs.Once.{no_trace}
use Rattle.trace_text.proofs.laws.faults_are_of_no_trace.Goals as goal

pub returns : goal.returns
returns c = no_trace
