use Rattle.language.specs.Program.{body}
use Rattle.language.specs.Look.{language, look}
use Rattle.plain_language.proofs.Acting.{no_enter}
use Rattle.plain_language.proofs.expr.Expr.after_enter.Goals as goal

pub returns-in_default-act : goal.returns-in_default-act
returns-in_default-act c =
    let fs = body c.args.program.now in
    no_enter (language fs) fs c.args.q.0 c.args.self.now (look fs c.args.self.now) c.in-Some.act (c.in-Some.ensures.act fs) c.in_default-act.not-Enter
