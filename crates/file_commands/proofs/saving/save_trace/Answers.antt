use Rattle.std.proofs.Common.{inr, subst}
use Rattle.sink_lines.specs.Device.{device}
use Rattle.call_report.specs.Reading.{Holds, trace_form}
use Rattle.file_commands.proofs.SourceRead.{few_events}
use Rattle.file_commands.proofs.saving.save_trace.Goals as goal

pub save_cut-requires-clause-short : goal.save_cut-requires-clause-short
save_cut-requires-clause-short g c = few_events _ _ _ c.in-Ok.history c.in-Ok.ensures.ok

pub returns-in-Ok-clause-says : goal.returns-in-Ok-clause-says
returns-in-Ok-clause-says g c =
    let held = subst (λ name. Holds trace_form (device g.F.Files.held g.F.Files.faults c.args.files.now) name (g.F.Files.faults c.read_trace_file.new.files) c.in-Ok.history) c.as_str.ensures c.in-Ok.ensures.ok in
    inr (c.in-Ok.history, held, c.save_cut.ensures)
