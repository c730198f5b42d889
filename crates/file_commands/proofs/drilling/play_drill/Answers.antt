use Rattle.std.proofs.Common.{refl}
use Rattle.stab_code.specs.JobParts.{job_of}
use Rattle.drill_text.specs.Script.{script_of}
use Rattle.call_report.specs.Report.{outcome_of}
use Rattle.file_commands.proofs.Drilled.{play_ends, unplayed_ends}
use Rattle.file_commands.proofs.drilling.play_drill.Goals as goal

pub returns-in-Ok : goal.returns-in-Ok
returns-in-Ok g c =
    let job = job_of c.args.given.program c.args.given.script.items c.args.fuel c.args.quantum in
    let outcome = outcome_of g.K.Sink.told g.K.Sink.faults c.args.sink.now c.write_end.new.sink c.write_end.result in
    play_ends job (script_of c.args.orders.now) outcome c.in-Ok.end.lines.items c.in-Ok.end.book c.in-Ok.ensures.drilled c.in-Ok.ensures.of_job c.in-Ok.ensures.shown c.write_end.result.status c.write_end.ensures

pub returns-in-Err : goal.returns-in-Err
returns-in-Err g c =
    let job = job_of c.args.given.program c.args.given.script.items c.args.fuel c.args.quantum in
    let outcome = outcome_of g.K.Sink.told g.K.Sink.faults c.args.sink.now c.args.sink.now c.unplayed.result in
    unplayed_ends job (script_of c.args.orders.now) outcome c.unplayed.result.status c.in-Err.fault c.unplayed.ensures.status c.in-Err.ensures.refused (c.unplayed.ensures.blames, (refl, refl))
