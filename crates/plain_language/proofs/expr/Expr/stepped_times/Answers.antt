use Rattle.std.proofs.Common.{◌≡◌, Some, ◌∙◌, arith}
use Rattle.std.proofs.lemmas.Grind.{common_steps}
use Rattle.language.specs.Look.{language, look}
use Rattle.language.specs.Program.{body}
use Rattle.language.specs.Table.{pure_of}
use Rattle.plain_language.proofs.Looking.{one_step_more}
use Rattle.plain_language.proofs.expr.Expr.stepped_times.Goals as goal

pub loop-step-preserved : goal.loop-step-preserved
loop-step-preserved c =
    let p = body c.args.program.now in
    let is : Some c.in-Some.next ≡ pure_of (language p) (look p c.loop-step.e) = first_of (cc, grind (arith, common_steps)) in
    c.loop-step.invariant ∙ one_step_more p c.args.n c.loop-step._step c.loop-step.e c.in-Some.next (omega arith) is
