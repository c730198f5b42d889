use Rattle.lone_worker.proofs.OneRun.{one_solo, one_whole, whole_begins}
use Rattle.lone_worker.proofs.OneStart.{one_start, start_unlent}
use Rattle.lone_worker.proofs.laws.one_journal.Goals as goal

pub returns-clause-start : goal.returns-clause-start
returns-clause-start c = start_unlent

pub returns-clause-desk : goal.returns-clause-desk
returns-clause-desk c = one_start

pub returns-clause-journal : goal.returns-clause-journal
returns-clause-journal c = one_solo

pub returns-clause-part : goal.returns-clause-part
returns-clause-part c = whole_begins

pub returns-clause-whole : goal.returns-clause-whole
returns-clause-whole c = one_whole
