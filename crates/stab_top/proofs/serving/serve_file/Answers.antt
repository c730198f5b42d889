use Rattle.std.proofs.Common.{inr, subst}
use Rattle.sink_lines.specs.Device.{device}
use Rattle.call_report.specs.Reading.{Holds, program_form}
use Rattle.stab_top.proofs.serving.serve_file.Goals as goal

pub returns-in-Ok-clause-says : goal.returns-in-Ok-clause-says
returns-in-Ok-clause-says g c =
    let faults = g.F.Files.faults in
    let before = device g.F.Files.held faults c.args.files.now in
    let held = subst (λ name. Holds program_form before name (faults c.read_program_file.new.files) c.in-Ok.program) c.as_str.ensures c.in-Ok.ensures.ok in
    inr (c.in-Ok.program, held, c.serve_read.ensures.ends)
