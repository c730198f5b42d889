use Rattle.language.specs.Look.{language, look}
use Rattle.plain_language.proofs.Acting.{no_print}
use Rattle.plain_language.proofs.expr.Expr.printed.Goals as goal

pub returns-in_default-act-clause-prints : goal.returns-in_default-act-clause-prints
returns-in_default-act-clause-prints c fs = no_print (language fs) fs c.args.self.now (look fs c.args.self.now) c.in-Some.act (c.in-Some.ensures.act fs) c.in_default-act.not-Print
