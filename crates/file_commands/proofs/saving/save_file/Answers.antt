use Rattle.std.proofs.Common.{subst}
use Rattle.sink_lines.specs.Device.{device}
use Rattle.file_commands.specs.Saving.{CutSays, source_form}
use Rattle.call_report.specs.Call.{ScriptSays}
use Rattle.call_report.specs.Report.{outcome_of}
use Rattle.call_report.specs.Reading.{Holds}
use Rattle.call_report.proofs.ReadFirst.{next_read}
use Rattle.file_commands.proofs.saving.save_file.Goals as goal

pub returns-in-Ok-clause-says : goal.returns-in-Ok-clause-says
returns-in-Ok-clause-says g c =
    let faults = g.F.Files.faults in
    let before = device g.F.Files.held faults c.args.files.now in
    let between = device g.F.Files.held faults c.read_source_file.new.files in
    let outcome = outcome_of g.K.Sink.told g.K.Sink.faults c.args.sink.now c.save_source.new.sink c.save_source.result in
    let args = c.args.args.now in
    let holds = subst (λ name. Holds source_form before name between.faults c.in-Ok.source) c.as_str.ensures c.in-Ok.ensures.ok in
    next_read source_form outcome (faults c.save_source.new.files) before between args.file (λ call source. ScriptSays call args.probes (λ script. CutSays call args source script)) c.in-Ok.source
    c.in-Ok.ensures.kept holds c.save_source.ensures.says
