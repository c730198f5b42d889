use Rattle.std.proofs.Common.{inr, subst}
use Rattle.sink_lines.specs.Device.{device}
use Rattle.call_report.specs.Reading.{Holds}
use Rattle.file_commands.specs.Resuming.{image_form}
use Rattle.file_commands.proofs.resuming.resume_file.Goals as goal

pub returns-in-Ok-clause-says : goal.returns-in-Ok-clause-says
returns-in-Ok-clause-says g c =
    let faults = g.F.Files.faults in
    let before = device g.F.Files.held faults c.args.files.now in
    let held = subst (λ name. Holds image_form before name (faults c.read_image_file.new.files) c.in-Ok.image) c.as_str.ensures c.in-Ok.ensures.ok in
    inr (c.in-Ok.image, held, c.resume_image.ensures)
