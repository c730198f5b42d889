-- What is looked at is that expression.
use Rattle.std.proofs.Common.{OnOk, sym, ◌∙◌, subst}
use Rattle.language.specs.Expression.{Expr}
use Rattle.step_eval.specs.Arrival.{Arrives}
use Rattle.step_eval.specs.ControlView.{view_of}
use Rattle.step_eval.specs.declared.machine.Focus.TheVariants as focus
use Rattle.step_eval.proofs.Stepping.{expr-by}
use Rattle.step_eval.proofs.machine.Running.find.Goals as goal

pub returns-in-Begun : goal.returns-in-Begun
returns-in-Begun c =
    let E : Expr → Type 0 = λ (e : Expr). OnOk c.start.result (Arrives c.args.p.now (view_of c.start.new.self) e) in
    subst E (sym (expr-by c.args.p.now c.args.self.now (focus.Begun c.in-Begun.n) (sym c.replace.ensures.value ∙ c.in-Begun.is))) c.start.ensures

pub returns-in-Value : goal.returns-in-Value
returns-in-Value c =
    let E : Expr → Type 0 = λ (e : Expr). OnOk c.give.result (Arrives c.args.p.now (view_of c.give.new.self) e) in
    subst E (sym (expr-by c.args.p.now c.args.self.now (focus.Value c.in-Value.v) (sym c.replace.ensures.value ∙ c.in-Value.is))) c.give.ensures
