use Rattle.std.proofs.Common.{refl}
use Rattle.stab_code.specs.JobParts.{job_of}
use Rattle.book_runs.specs.Ending.{AtTheEnd}
use Rattle.call_report.specs.Report.{outcome_of}
use Rattle.stab_top.proofs.Reported.{no_job, reported}
use Rattle.stab_top.proofs.running.trace_given.Goals as goal

pub returns-in_default : goal.returns-in_default
returns-in_default g c =
    let job = job_of c.args.given.program c.args.given.script.items c.args.means.fuel c.args.means.quantum in
    no_job AtTheEnd c.args.means.workers (outcome_of g.K.Sink.told g.K.Sink.faults c.args.sink.now c.args.sink.now c.bare.result) job c.bare.ensures.status c.bare.ensures.blames (refl, refl)

pub returns : goal.returns
returns g c =
    let job = job_of c.args.given.program c.args.given.script.items c.args.means.fuel c.args.means.quantum in
    reported AtTheEnd c.args.means.workers (outcome_of g.K.Sink.told g.K.Sink.faults c.args.sink.now c.trace_program.new.sink c.report_of.result) c.trace_program.result.status c.trace_program.result.book
    c.in-Ok.job job c.report_of.ensures.status c.report_of.ensures.leaves c.in-Ok.ensures c.trace_program.ensures
