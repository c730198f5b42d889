use Rattle.std.proofs.Common.{refl}
use Rattle.stab_code.specs.JobParts.{job_of}
use Rattle.turn_floor.specs.Served.{AreOf}
use Rattle.book_runs.specs.Ending.{AsReleased}
use Rattle.book_runs.specs.Watching.{run_as, text_with}
use Rattle.call_report.specs.Report.{outcome_of}
use Rattle.stab_top.proofs.Reported.{made_too, no_job, reported}
use Rattle.stab_top.proofs.running.run_given.Goals as goal

pub returns-in_default-clause-ends : goal.returns-in_default-clause-ends
returns-in_default-clause-ends g c =
    let job = job_of c.args.given.program c.args.given.script.items c.args.means.fuel c.args.means.quantum in
    no_job (AsReleased (text_with c.args.last)) (run_as c.args.last c.args.means.workers) (outcome_of g.K.Sink.told g.K.Sink.faults c.args.sink.now c.args.sink.now c.bare.result) job
    c.bare.ensures.status c.bare.ensures.blames (refl, refl)

pub returns-clause-ends : goal.returns-clause-ends
returns-clause-ends g c =
    let job = job_of c.args.given.program c.args.given.script.items c.args.means.fuel c.args.means.quantum in
    reported (AsReleased (text_with c.args.last)) (run_as c.args.last c.args.means.workers) (outcome_of g.K.Sink.told g.K.Sink.faults c.args.sink.now c.run_program.new.sink c.report_of.result) c.run_program.result.status c.run_program.result.book
    c.in-Ok.job job c.report_of.ensures.status c.report_of.ensures.leaves c.in-Ok.ensures c.run_program.ensures.ends

pub returns-clause-named : goal.returns-clause-named
returns-clause-named g c =
    made_too (λ book. AreOf c.args.means.workers book.history.events) c.run_program.result.book c.report_of.result.made c.report_of.ensures.leaves.made c.run_program.ensures.named
