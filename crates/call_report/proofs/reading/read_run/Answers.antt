use Rattle.std.proofs.Common.{subst}
use Rattle.std.proofs.lemmas.Result.{err_from_is_err_and}
use Rattle.sink_lines.specs.Device.{device}
use Rattle.call_report.specs.Reading.{Holds, ReadRefused, probes_form, program_form}
use Rattle.call_report.proofs.RunRead.{no_script, program_refused, script_refused, with_script}
use Rattle.call_report.proofs.reading.read_run.Goals as goal

pub returns-in_err-program-clause-err : goal.returns-in_err-program-clause-err
returns-in_err-program-clause-err g c =
    let report = err_from_is_err_and c.from_residual.result c.from_residual.ensures.1 in
    let files = device g.F.Files.held g.F.Files.faults c.args.files.now in
    let after = g.F.Files.faults c.read_program_file.new.files in
    rw (report.1, report.2)
    (program_refused files after c.args.args.now.file c.args.args.now.probes c.in_err-program.field-0.0
    (subst (λ name. ReadRefused program_form c.in_err-program.field-0.0 files name after) c.as_str.ensures c.in_err-program.ensures.err))

pub returns-in_default-clause-ok : goal.returns-in_default-clause-ok
returns-in_default-clause-ok g c =
    let files = device g.F.Files.held g.F.Files.faults c.args.files.now in
    let after = g.F.Files.faults c.read_program_file.new.files in
    no_script files files after c.args.args.now.file c.args.args.now.probes c.in_ok-program.program c.new.result.items c.in_default.is
    (subst (λ name. Holds program_form files name after c.in_ok-program.program) c.as_str.ensures c.in_ok-program.ensures.ok) c.new.ensures.items

pub returns-in_err-script-clause-err : goal.returns-in_err-script-clause-err
returns-in_err-script-clause-err g c =
    let report = err_from_is_err_and c.from_residual-in_err-script.result c.from_residual-in_err-script.ensures.1 in
    let files = device g.F.Files.held g.F.Files.faults c.args.files.now in
    let between = device g.F.Files.held g.F.Files.faults c.read_program_file.new.files in
    let after = g.F.Files.faults c.read_probes_file.new.files in
    rw (report.1, report.2)
    (script_refused files between after c.args.args.now.file c.args.args.now.probes c.in_ok-program.program c.in-Some.file c.in_err-script.field-0.0 c.in-Some.is c.in_ok-program.ensures.kept
    (subst (λ name. Holds program_form files name between.faults c.in_ok-program.program) c.as_str.ensures c.in_ok-program.ensures.ok)
    (subst (λ name. ReadRefused probes_form c.in_err-script.field-0.0 between name after) c.as_str-2.ensures c.in_err-script.ensures.err))

pub returns-clause-ok : goal.returns-clause-ok
returns-clause-ok g c =
    let files = device g.F.Files.held g.F.Files.faults c.args.files.now in
    let between = device g.F.Files.held g.F.Files.faults c.read_program_file.new.files in
    let after = g.F.Files.faults c.read_probes_file.new.files in
    with_script files between after c.args.args.now.file c.args.args.now.probes c.in_ok-program.program c.in-Some.file c.in_ok-script.script.items c.in-Some.is c.in_ok-program.ensures.kept
    (subst (λ name. Holds program_form files name between.faults c.in_ok-program.program) c.as_str.ensures c.in_ok-program.ensures.ok)
    (subst (λ name. Holds probes_form between name after c.in_ok-script.script.items) c.as_str-2.ensures c.in_ok-script.ensures.ok)
