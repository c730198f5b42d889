use Rattle.plain_language.specs.Acts.{act_of}
use Rattle.language.specs.Program.{body}
use Rattle.plain_language.proofs.Looking.{no_pure_at_act}
use Rattle.plain_language.proofs.expr.Expr.next_pure.Goals as goal

pub returns-in-Some-act_at : goal.returns-in-Some-act_at
returns-in-Some-act_at c =
    let p = body c.args.program.now in
    no_pure_at_act p c.args.self.now c.in-Some.head.now c.in-Some.parts.now c.in-Some.ensures (act_of p c.in-Some-act_at._act) (c.in-Some-act_at.ensures.act p)
