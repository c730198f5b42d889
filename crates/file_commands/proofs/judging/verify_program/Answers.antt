use Rattle.std.proofs.Common.{sym, subst}
use Rattle.call_report.specs.Call.{ScriptSays, call_of}
use Rattle.file_commands.specs.Judging.{TraceSays}
use Rattle.sink_lines.specs.Device.{device}
use Rattle.call_report.specs.Report.{outcome_of}
use Rattle.call_report.specs.Reading.{Holds, probes_form}
use Rattle.call_report.proofs.ReadFirst.{script_read}
use Rattle.file_commands.proofs.judging.verify_program.Goals as goal

pub returns-in_default-clause-says : goal.returns-in_default-clause-says
returns-in_default-clause-says g c =
    let call = call_of g.F.Files.held g.F.Files.faults c.args.files.now c.judge_file.new.files (outcome_of g.K.Sink.told g.K.Sink.faults c.args.sink.now c.judge_file.new.sink c.judge_file.result) in
    let trace = c.args.args.now.trace in
    let program = c.args.program in
    subst (λ probes. ScriptSays call probes (λ script. TraceSays call trace program script)) (sym c.in_default.is)
    (subst (λ script. TraceSays call trace program script) c.new.ensures.items c.judge_file.ensures.says)

pub returns-in-Ok-clause-says : goal.returns-in-Ok-clause-says
returns-in-Ok-clause-says g c =
    let faults = g.F.Files.faults in
    let before = device g.F.Files.held faults c.args.files.now in
    let between = device g.F.Files.held faults c.read_probes_file.new.files in
    let outcome = outcome_of g.K.Sink.told g.K.Sink.faults c.args.sink.now c.judge_file-in-Ok.new.sink c.judge_file-in-Ok.result in
    let script = c.in-Ok.script.items in
    let holds = subst (λ name. Holds probes_form before name between.faults script) c.as_str.ensures c.in-Ok.ensures.ok in
    script_read outcome (faults c.judge_file-in-Ok.new.files) before between c.args.args.now.probes c.in-Some.file (λ call s. TraceSays call c.args.args.now.trace c.args.program s) script c.in-Some.is c.in-Ok.ensures.kept holds c.judge_file-in-Ok.ensures.says
