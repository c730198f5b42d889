-- What is next is told by what is looked at.
use Rattle.std.specs.Arc.{arc_value}
use Rattle.std.proofs.Common.{ap, sym, ◌∙◌, subst}
use Rattle.language.specs.Look.{look}
use Rattle.language.specs.Program.{body}
use Rattle.step_eval.specs.declared.ask.Ask.{Ask}
use Rattle.step_eval.specs.declared.machine.Focus.TheVariants as focus
use Rattle.step_eval.specs.Asked.{IsAsked, operands_of}
use Rattle.step_eval.specs.ControlView.{expr_of}
use Rattle.step_eval.specs.Seen.{seen_at}
use Rattle.step_eval.proofs.Asking.{asked-is, asked-rightly, found-alone}
use Rattle.step_eval.proofs.control.Control.ask.Goals as goal

pub returns-in-Begun-clause-look : goal.returns-in-Begun-clause-look
returns-in-Begun-clause-look c = λ p fits found. asked-is p c.args.self.now (arc_value c.self.inside.machine) c.self.inside.focus (focus.Begun c.in-Begun._n) (sym c.self.view_is) c.in-Begun.is fits found

pub returns-in-Form-clause-look : goal.returns-in-Form-clause-look
returns-in-Form-clause-look c = λ p fits found. asked-is p c.args.self.now (arc_value c.self.inside.machine) c.self.inside.focus focus.Form (sym c.self.view_is) c.in-Form.is fits found

pub returns-in-Act-clause-look : goal.returns-in-Act-clause-look
returns-in-Act-clause-look c = λ p fits found. asked-is p c.args.self.now (arc_value c.self.inside.machine) c.self.inside.focus (focus.Act c.in-Act.a) (sym c.self.view_is) c.in-Act.is fits found

pub returns-in-Act-clause-operands : goal.returns-in-Act-clause-operands
returns-in-Act-clause-operands c = λ p fits. asked-rightly p c.args.self.now (arc_value c.self.inside.machine) c.self.inside.focus (focus.Act c.in-Act.a) (sym c.self.view_is) c.in-Act.is fits

pub returns-in-Value-clause-look : goal.returns-in-Value-clause-look
returns-in-Value-clause-look c = λ p fits found.
    let v = c.args.self.now in
    let m = c.deref-machine.result.now in
    let is = sym c.self.view_is ∙ ap (seen_at c.self.inside.focus) (sym c.deref-machine.ensures) in
    let done = c.ask_of_value.ensures.alone (found-alone v m c.self.inside.focus c.in-Value._v is c.in-Value.is found) in
    let A : Ask → Type 0 = λ (r : Ask). IsAsked (body p) (operands_of v) (look (body p) (expr_of p v)) r in
    subst A (sym done) (asked-is p v m c.self.inside.focus (focus.Value c.in-Value._v) is c.in-Value.is fits found)

pub returns-in-Fault-clause-look : goal.returns-in-Fault-clause-look
returns-in-Fault-clause-look c = λ p fits found. asked-is p c.args.self.now (arc_value c.self.inside.machine) c.self.inside.focus (focus.Fault c.in-Fault.k) (sym c.self.view_is) c.in-Fault.is fits found
