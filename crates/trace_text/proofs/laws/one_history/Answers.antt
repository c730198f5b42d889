use Rattle.trace_text.proofs.Once.{events_same, struck_same}
use Rattle.trace_text.proofs.laws.one_history.Goals as goal

pub returns-clause-events : goal.returns-clause-events
returns-clause-events c = events_same

pub returns-clause-struck : goal.returns-clause-struck
returns-clause-struck c = struck_same
