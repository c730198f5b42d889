use Rattle.language.specs.Look.{language, look}
use Rattle.plain_language.proofs.Acting.{no_ref}
use Rattle.plain_language.proofs.expr.Expr.after_new_ref.Goals as goal

pub returns-in_default-act : goal.returns-in_default-act
returns-in_default-act c fs = no_ref (language fs) fs c.args.r.0 c.args.self.now (look fs c.args.self.now) c.in-Some.act (c.in-Some.ensures.act fs) c.in_default-act.not-NewRef
