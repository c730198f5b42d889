use Rattle.std.proofs.Common.{Ok, Err, sym, ◌∙◌}
use Rattle.image_lines.specs.Counts.{script_of}
use Rattle.image_lines.proofs.CountsSteps.{next_none, next_step}
use Rattle.image_lines.proofs.counts.followed.Goals as goal

pub returns-in_default : goal.returns-in_default
returns-in_default c = sym (next_none c.args.used (script_of c.args.script) c.in_default.ensures.pieces)

pub returns-in-Ok : goal.returns-in-Ok
returns-in-Ok c =
    sym (next_step c.args.used (script_of c.args.script) c.in-Some.line.now c.in-Some.rest.now (Ok c.in-Ok.next) c.in-Some.ensures.pieces (sym c.in-Ok.is ∙ c.next_in.ensures))

pub returns : goal.returns
returns c =
    sym (next_step c.args.used (script_of c.args.script) c.in-Some.line.now c.in-Some.rest.now (Err c.in-Err.fault) c.in-Some.ensures.pieces (sym c.in-Err.is ∙ c.next_in.ensures))
