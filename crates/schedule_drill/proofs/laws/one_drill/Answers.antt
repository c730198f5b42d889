use Rattle.schedule_drill.proofs.OneDrill.{one_book, one_reason, one_text, played_or_refused}
use Rattle.schedule_drill.proofs.laws.one_drill.Goals as goal

pub returns-clause-text : goal.returns-clause-text
returns-clause-text c = one_text

pub returns-clause-desk : goal.returns-clause-desk
returns-clause-desk c = one_book

pub returns-clause-reason : goal.returns-clause-reason
returns-clause-reason c = one_reason

pub returns-clause-apart : goal.returns-clause-apart
returns-clause-apart c = played_or_refused
