use Rattle.std.proofs.Common.{refl, subst}
use Rattle.stab_code.specs.JobParts.{JobParts}
use Rattle.lone_worker.specs.Solo.{IsWholeSolo}
use Rattle.lone_worker.proofs.OneRun.{one_whole, whole_begins}
use Rattle.stab_top.proofs.laws.runs_have_one_history.Goals as goal

pub returns-clause-whole : goal.returns-clause-whole
returns-clause-whole c = λ job a b s t here there first second.
    one_whole job a.history.events b.history.events (subst (λ (j : JobParts). IsWholeSolo j a.history.events) here.of_job first) (subst (λ (j : JobParts). IsWholeSolo j b.history.events) there.of_job second)

pub returns-clause-part : goal.returns-clause-part
returns-clause-part c = λ job a b s t here there first.
    whole_begins job (there.solo refl).0 a.history.events b.history.events (subst (λ (j : JobParts). IsWholeSolo j a.history.events) here.of_job first) (there.solo refl).1
