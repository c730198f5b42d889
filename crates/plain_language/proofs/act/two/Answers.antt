use Rattle.std.proofs.Common.{arith}
use Rattle.language.specs.Busy.{values_in}
use Rattle.language.proofs.Operands.{length-values_in, two_of-none}
use Rattle.plain_language.proofs.act.two.Goals as goal

pub returns-else-parts-eq2 : goal.returns-else-parts-eq2
returns-else-parts-eq2 c =
    let size = length-values_in c.args.parts.now c.requires in
    two_of-none (values_in c.args.parts.now) (λ e. c.if-parts-eq2.false (omega (arith, size, e)))
