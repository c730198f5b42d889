use Rattle.std.proofs.Common.{sym, subst}
use Rattle.file_commands.specs.Saving.{CutSays}
use Rattle.call_report.specs.Call.{ScriptSays, call_of}
use Rattle.sink_lines.specs.Device.{device}
use Rattle.call_report.specs.Report.{outcome_of}
use Rattle.call_report.specs.Reading.{Holds, probes_form}
use Rattle.call_report.proofs.ReadFirst.{script_read}
use Rattle.file_commands.proofs.saving.save_source.Goals as goal

pub returns-in_default-clause-says : goal.returns-in_default-clause-says
returns-in_default-clause-says g c =
    let call = call_of g.F.Files.held g.F.Files.faults c.args.files.now c.save_trace.new.files (outcome_of g.K.Sink.told g.K.Sink.faults c.args.sink.now c.save_trace.new.sink c.save_trace.result) in
    let args = c.args.args.now in
    let source = c.args.source in
    subst (λ probes. ScriptSays call probes (λ script. CutSays call args source script)) (sym c.in_default.is)
    (subst (λ script. CutSays call args source script) c.new.ensures.items c.save_trace.ensures.says)

pub returns-in-Ok-clause-says : goal.returns-in-Ok-clause-says
returns-in-Ok-clause-says g c =
    let faults = g.F.Files.faults in
    let before = device g.F.Files.held faults c.args.files.now in
    let between = device g.F.Files.held faults c.read_probes_file.new.files in
    let outcome = outcome_of g.K.Sink.told g.K.Sink.faults c.args.sink.now c.save_trace-in-Ok.new.sink c.save_trace-in-Ok.result in
    let script = c.in-Ok.script.items in
    let holds = subst (λ name. Holds probes_form before name between.faults script) c.as_str.ensures c.in-Ok.ensures.ok in
    script_read outcome (faults c.save_trace-in-Ok.new.files) before between c.args.args.now.probes c.in-Some.file (λ call s. CutSays call c.args.args.now c.args.source s) script c.in-Some.is c.in-Ok.ensures.kept holds c.save_trace-in-Ok.ensures.says
