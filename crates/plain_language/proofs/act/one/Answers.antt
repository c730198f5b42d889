use Rattle.std.proofs.Common.{arith}
use Rattle.language.specs.Busy.{values_in}
use Rattle.language.proofs.Operands.{length-values_in, one_of-none}
use Rattle.plain_language.proofs.act.one.Goals as goal

pub returns-else-parts-eq1 : goal.returns-else-parts-eq1
returns-else-parts-eq1 c =
    let size = length-values_in c.args.parts.now c.requires in
    one_of-none (values_in c.args.parts.now) (λ e. c.if-parts-eq1.false (omega (arith, size, e)))
