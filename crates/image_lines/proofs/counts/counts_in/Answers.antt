use Rattle.std.proofs.Common.{Ok, Err, sym, ◌∙◌}
use Rattle.image_lines.proofs.CountsSteps.{probes_none, probes_step}
use Rattle.image_lines.proofs.counts.counts_in.Goals as goal

pub returns-in_default : goal.returns-in_default
returns-in_default c = sym (probes_none c.args.start c.args.bytes.now c.in_default.ensures.pieces)

pub returns-in_ok-counts-in-Ok : goal.returns-in_ok-counts-in-Ok
returns-in_ok-counts-in-Ok c =
    c.in_ok-counts-in-Ok.ensures
    ∙ sym (probes_step c.args.start c.args.bytes.now c.in-Some.line.now c.in-Some.rest.now (Ok c.in-Ok.probes) c.in-Some.ensures.pieces (sym c.in-Ok.is ∙ c.probes_in.ensures))

pub returns-in-Err : goal.returns-in-Err
returns-in-Err c =
    sym (probes_step c.args.start c.args.bytes.now c.in-Some.line.now c.in-Some.rest.now (Err c.in-Err.fault) c.in-Some.ensures.pieces (sym c.in-Err.is ∙ c.probes_in.ensures))
