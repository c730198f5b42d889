use Rattle.std.proofs.Common.{inr, subst}
use Rattle.stab_code.specs.JobParts.{job_of}
use Rattle.book_runs.specs.Ending.{AsReleased, milled_by}
use Rattle.stab_top.specs.Running.{RunEnds}
use Rattle.call_report.specs.Report.{outcome_of}
use Rattle.stab_top.proofs.milling.run_mill.Goals as goal

pub returns-in-Ok : goal.returns-in-Ok
returns-in-Ok g c =
    let outcome = outcome_of g.K.Sink.told g.K.Sink.faults c.args.sink.now c.run_given.new.sink c.run_given.result in
    inr (
      c.in-Ok.given.program,
      c.in-Ok.ensures.program,
      subst (λ script. RunEnds (AsReleased (milled_by c.args.args.now.size)) c.args.args.now.workers outcome.report.status (job_of c.in-Ok.given.program script c.args.args.now.fuel c.args.args.now.quantum) outcome)
          c.in-Ok.ensures.script c.run_given.ensures.ends,
    )
