use Rattle.language.specs.Look.{language, look}
use Rattle.plain_language.proofs.Acting.{no_probe}
use Rattle.plain_language.proofs.expr.Expr.after_probe.Goals as goal

pub returns-in_default-act : goal.returns-in_default-act
returns-in_default-act c fs = no_probe (language fs) fs c.args.i c.args.self.now (look fs c.args.self.now) c.in-Some.act (c.in-Some.ensures.act fs) c.in_default-act.not-Probe
