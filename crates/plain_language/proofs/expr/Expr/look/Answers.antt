use Rattle.std.proofs.Common.{◌∙◌, ap}
use Rattle.plain_language.specs.declared.look.Look.TheVariants.{Act}
use Rattle.plain_language.specs.Acts.{act_of}
use Rattle.plain_language.proofs.Looking.{look_act}
use Rattle.plain_language.proofs.expr.Expr.look.Goals as goal

pub returns-in-Some-act_at : goal.returns-in-Some-act_at
returns-in-Some-act_at c body =
    ap Act (c.kind.ensures body) ∙ look_act body c.args.self.now c.in-Some.head.now c.in-Some.parts.now c.in-Some.ensures (act_of body c.in-Some-act_at.act) (c.in-Some-act_at.ensures.act body)
