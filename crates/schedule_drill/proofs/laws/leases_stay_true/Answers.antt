use Rattle.schedule_drill.proofs.TrueCommits.{commit_true}
use Rattle.schedule_drill.proofs.Truth.{lease_true, none_true, step_true}
use Rattle.schedule_drill.proofs.laws.leases_stay_true.Goals as goal

pub returns-clause-first : goal.returns-clause-first
returns-clause-first c = none_true

pub returns-clause-lease : goal.returns-clause-lease
returns-clause-lease c = lease_true

pub returns-clause-step : goal.returns-clause-step
returns-clause-step c = step_true

pub returns-clause-commit : goal.returns-clause-commit
returns-clause-commit c = λ a x k s h shown_a shown_x found commit is. commit_true a x k s h shown_a shown_x found commit is
