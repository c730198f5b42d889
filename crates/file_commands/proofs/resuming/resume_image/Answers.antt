use Rattle.call_report.specs.Report.{outcome_of}
use Rattle.file_commands.proofs.GoneOn.{gone_on}
use Rattle.file_commands.proofs.resuming.resume_image.Goals as goal

pub returns-in-Ok : goal.returns-in-Ok
returns-in-Ok g c =
    let outcome = outcome_of g.K.Sink.told g.K.Sink.faults c.args.sink.now c.put_shown.new.sink c.put_shown.result in
    gone_on c.args.image c.args.fuel c.args.quantum outcome c.in-Ok.shown c.status_of.result c.in-Ok.ensures c.status_of.ensures c.put_shown.ensures.reported c.put_shown.ensures.told
