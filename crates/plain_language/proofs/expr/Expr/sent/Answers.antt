use Rattle.std.proofs.lemmas.Bool.{false≢true}
use Rattle.language.specs.Look.{language, look}
use Rattle.plain_language.proofs.Acting.{no_sent}
use Rattle.plain_language.proofs.expr.Expr.sent.Goals as goal

pub returns-in_default-act : goal.returns-in_default-act
returns-in_default-act c = record {
  sent = λ fs. no_sent (language fs) fs c.args.c.0 (look fs c.args.self.now) c.in-Some.act (c.in-Some.ensures.act fs) c.in_default-act.not-Send;
  redex = λ h. absurd (false≢true h);
}
