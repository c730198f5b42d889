use Rattle.std.proofs.Common.{Some, refl, sym, ap, subst, ◌∙◌}
use Rattle.stab_code.specs.JobParts.{job_of}
use Rattle.sink_lines.specs.Device.{device}
use Rattle.live_rounds.specs.Numbers.{heard}
use Rattle.call_report.specs.Input.{input_of}
use Rattle.call_report.specs.Report.{outcome_of}
use Rattle.stab_top.specs.Serving.{IsServedBy}
use Rattle.stab_top.proofs.ServedReports.{served_by, unserved, untaken}
use Rattle.stab_top.proofs.serving.serve_read.Goals as goal

pub returns-clause-ends : goal.returns-clause-ends
returns-clause-ends g c =
    let came = g.N.NumberSource.came in
    let ended = g.N.NumberSource.ended in
    let last = g.N.NumberSource.last in
    let args = c.args.args.now in
    let program = c.args.program in
    let after = input_of came ended last (Some c.serve_program.new.source) in
    let outcome = outcome_of g.K.Sink.told g.K.Sink.faults c.args.sink.now c.serve_program.new.sink c.report_of.result in
    let run = c.serve_program.result in
    let same = c.in-Ok.ensures ∙ ap (λ script. job_of program script args.fuel args.quantum) c.new.ensures.items in
    subst (λ source. IsServedBy args program (input_of came ended last source) after outcome) (sym c.in-Some.is)
    (served_by args program (input_of came ended last (Some c.in-Some.source)) after outcome run.status run.bad run.book c.in-Ok.job c.report_of.ensures.status c.report_of.ensures.made c.report_of.ensures.blame
    c.serve_program.ensures.bad same c.serve_program.ensures.ends)

pub returns-clause-unheard : goal.returns-clause-unheard
returns-clause-unheard g c =
    let came = g.N.NumberSource.came in
    let ended = g.N.NumberSource.ended in
    let last = g.N.NumberSource.last in
    let args = c.args.args.now in
    let after = input_of came ended last (Some c.serve_program.new.source) in
    let before = input_of came ended last (Some c.in-Some.source) in
    let outcome = outcome_of g.K.Sink.told g.K.Sink.faults c.args.sink.now c.serve_program.new.sink c.report_of.result in
    let run = c.serve_program.result in
    let there = untaken args c.args.program before after outcome run.status run.book c.in-Ok.job c.report_of.result.made c.report_of.ensures.made c.serve_program.ensures.ends in
    λ none. there none ∙ ap (input_of came ended last) (sym c.in-Some.is)
