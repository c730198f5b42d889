use Rattle.std.proofs.Common.{◌≡◌, Option, subst, IfOk}
use Rattle.std.specs.Prelude.{option_map}
use Rattle.std.specs.Option.{option_copied}
use Rattle.language.specs.Expression.{Expr}
use Rattle.language.specs.Steps.{Effect}
use Rattle.language.specs.Table.{to}
use Rattle.language.specs.Look.{language, look}
use Rattle.plain_language.proofs.Acting.{no_get, get_this, get_other}
use Rattle.plain_language.proofs.expr.Expr.after_get.Goals as goal

pub returns-in_default-act : goal.returns-in_default-act
returns-in_default-act c fs = no_get (language fs) fs c.args.r.0 c.args.self.now (option_copied c.args.held) (look fs c.args.self.now) c.in-Some.act (c.in-Some.ensures.act fs) c.in_default-act.not-Get

pub returns-then-at-r : goal.returns-then-at-r
returns-then-at-r c fs = get_other (language fs) fs c.args.r.0 c.args.self.now (option_copied c.args.held) (look fs c.args.self.now) c.in-Some.act c.in-Get.at (c.in-Some.ensures.act fs) c.in-Get.is c.if-at-r.true

pub returns : goal.returns
returns c fs =
    subst (λ (x : Option (Effect Expr)). IfOk c.with_held.result (λ o. option_map (to (language fs)) o ≡ x))
    (get_this (language fs) fs c.args.r.0 c.args.self.now (option_copied c.args.held) (look fs c.args.self.now) c.in-Some.act c.in-Get.at (c.in-Some.ensures.act fs) c.in-Get.is c.if-at-r.false)
    (c.with_held.ensures fs)
