use Rattle.language.specs.Look.{language, look}
use Rattle.plain_language.proofs.Acting.{no_set}
use Rattle.plain_language.proofs.expr.Expr.after_set.Goals as goal

pub returns-in_default-act : goal.returns-in_default-act
returns-in_default-act c fs = no_set (language fs) fs c.args.r.0 c.args.self.now (look fs c.args.self.now) c.in-Some.act (c.in-Some.ensures.act fs) c.in_default-act.not-Set
