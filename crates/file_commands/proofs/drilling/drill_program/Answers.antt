use Rattle.std.proofs.Common.{sym, subst}
use Rattle.file_commands.specs.Drilling.{OrdersSay}
use Rattle.call_report.specs.Call.{ScriptSays, call_of}
use Rattle.sink_lines.specs.Device.{device}
use Rattle.call_report.specs.Report.{outcome_of}
use Rattle.call_report.specs.Reading.{Holds, probes_form}
use Rattle.call_report.proofs.ReadFirst.{script_read}
use Rattle.file_commands.proofs.drilling.drill_program.Goals as goal

pub returns-in_default-clause-says : goal.returns-in_default-clause-says
returns-in_default-clause-says g c =
    let call = call_of g.F.Files.held g.F.Files.faults c.args.files.now c.drill_given.new.files (outcome_of g.K.Sink.told g.K.Sink.faults c.args.sink.now c.drill_given.new.sink c.drill_given.result) in
    let args = c.args.args.now in
    let program = c.args.program in
    subst (λ probes. ScriptSays call probes (λ script. OrdersSay call args program script)) (sym c.in_default.is)
    (subst (λ script. OrdersSay call args program script) c.new-script.ensures.items c.drill_given.ensures.says)

pub returns-in-Ok-clause-says : goal.returns-in-Ok-clause-says
returns-in-Ok-clause-says g c =
    let faults = g.F.Files.faults in
    let before = device g.F.Files.held faults c.args.files.now in
    let between = device g.F.Files.held faults c.read_probes_file.new.files in
    let outcome = outcome_of g.K.Sink.told g.K.Sink.faults c.args.sink.now c.drill_given-in-Ok.new.sink c.drill_given-in-Ok.result in
    let script = c.in-Ok.script.items in
    let holds = subst (λ name. Holds probes_form before name between.faults script) c.as_str.ensures c.in-Ok.ensures.ok in
    script_read outcome (faults c.drill_given-in-Ok.new.files) before between c.args.args.now.probes c.in-Some.file (λ call s. OrdersSay call c.args.args.now c.args.program s) script c.in-Some.is c.in-Ok.ensures.kept holds c.drill_given-in-Ok.ensures.says
