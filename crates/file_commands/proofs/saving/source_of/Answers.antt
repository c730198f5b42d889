use Rattle.std.proofs.Common.{refl, subst}
use Rattle.std.proofs.lemmas.Result.{err_from_is_err_and}
use Rattle.stab_text.specs.Text.{IsTextOf}
use Rattle.call_report.specs.Reading.{BytesRefused}
use Rattle.file_commands.specs.Saving.{source_form}
use Rattle.file_commands.proofs.SourceRead.{as_source}
use Rattle.file_commands.proofs.saving.source_of.Goals as goal

pub returns-in_err-program-clause-err : goal.returns-in_err-program-clause-err
returns-in_err-program-clause-err c =
    let report = err_from_is_err_and c.from_residual.result c.from_residual.ensures.1 in
    rw (report.1, report.2) (subst (BytesRefused source_form c.in_err-program.field-0.0) c.deref.ensures.value (as_source c.in_err-program.field-0.0 _ c.in_err-program.ensures.err))

pub returns-clause-ok : goal.returns-clause-ok
returns-clause-ok c = (refl, subst (λ bytes. IsTextOf bytes c.in_ok-program.program) c.deref.ensures.value c.in_ok-program.ensures.ok)

pub returns-clause-text : goal.returns-clause-text
returns-clause-text c = subst (λ bytes. IsTextOf bytes c.in_ok-program.program) c.deref.ensures.value c.in_ok-program.ensures.ok
