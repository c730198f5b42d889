use Rattle.std.proofs.Common.{◌≤◌, length, subst, sym, ◌∙◌}
use Rattle.std.proofs.lemmas.Result.{err_from_is_err_and}
use Rattle.stab_text.specs.Text.{IsTextOf}
use Rattle.call_report.specs.Reading.{BytesRefused, program_form}
use Rattle.call_report.proofs.MillFits.{script_fits, text_fits}
use Rattle.call_report.proofs.milling.mill.Goals as goal

pub program_of-requires : goal.program_of-requires
program_of-requires c = subst (λ bytes. length bytes ≤ 1048576) (sym (c.deref.ensures.value ∙ c.in-Ok.ensures)) (text_fits c.args.size c.requires.1)

pub returns-in_err-program-clause-err : goal.returns-in_err-program-clause-err
returns-in_err-program-clause-err c =
    let report = err_from_is_err_and c.from_residual.result c.from_residual.ensures.1 in
    rw (report.1, report.2)
    (subst (BytesRefused program_form c.in_err-program.field-0.0) (c.deref.ensures.value ∙ c.in-Ok.ensures) c.in_err-program.ensures.err)

pub returns-clause-program : goal.returns-clause-program
returns-clause-program c = subst (λ bytes. IsTextOf bytes c.in_ok-program.program) (c.deref.ensures.value ∙ c.in-Ok.ensures) c.in_ok-program.ensures.ok

pub returns-clause-few : goal.returns-clause-few
returns-clause-few c = subst (λ numbers. length numbers ≤ 524288) (sym c.in-Ok-mill_script.ensures) (script_fits c.args.size c.requires.1)
