use Rattle.std.proofs.Common.{refl}
use Rattle.call_status.specs.declared.status.Status.TheVariants.{BadWords, NoMemory}
use Rattle.stab_top.proofs.Executing.{ends_as, executed, refused}
use Rattle.stab_top.proofs.program.command.Goals as goal

pub returns-in-Ok-clause-executes : goal.returns-in-Ok-clause-executes
returns-in-Ok-clause-executes g c =
    executed c.args.args c.in-Ok.args _ c.in-Ok.is (c.called-report.result, c.finish.ensures, c.called-report.ensures.says, c.called-report.ensures.hears)

pub returns-in-Err-clause-no_memory : goal.returns-in-Err-clause-no_memory
returns-in-Err-clause-no_memory g c =
    let report = c.refused_words-report.result in
    refused c.args.args c.in-Err.error _ c.in-Err.is
    (λ kind. (ends_as report NoMemory _ _ _ (c.refused_words-report.ensures.no_memory kind) c.refused_words-report.ensures.blames c.finish-in-Err.ensures, (refl, refl), refl, refl))

pub returns-in-Err-clause-no_text : goal.returns-in-Err-clause-no_text
returns-in-Err-clause-no_text g c =
    let report = c.refused_words-report.result in
    refused c.args.args c.in-Err.error _ c.in-Err.is
    (λ kind. (ends_as report BadWords _ _ _ (c.refused_words-report.ensures.no_text kind) c.refused_words-report.ensures.blames c.finish-in-Err.ensures, (refl, refl), refl, refl))
