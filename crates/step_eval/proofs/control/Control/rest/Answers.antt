use Rattle.std.proofs.Common.{ap, sym, ◌∙◌}
use Rattle.step_eval.specs.Seen.{seen_at}
use Rattle.step_eval.proofs.Ending.{rest-act, rest-begun, rest-fault, rest-form, rest-value}
use Rattle.step_eval.proofs.control.Control.rest.Goals as goal

pub returns-in-Fault : goal.returns-in-Fault
returns-in-Fault c = λ p valid fits. rest-fault p c.args.self.now c.deref-machine.result.now c.self.inside.focus (sym c.self.view_is ∙ ap (seen_at c.self.inside.focus) (sym c.deref-machine.ensures)) fits c.in-Fault.k c.in-Fault.is

pub returns-in-Value : goal.returns-in-Value
returns-in-Value c = λ p valid fits. rest-value p c.args.self.now c.deref-machine.result.now c.self.inside.focus (sym c.self.view_is ∙ ap (seen_at c.self.inside.focus) (sym c.deref-machine.ensures)) fits c.in-Value._v c.rest_of_value.result c.in-Value.is c.rest_of_value.ensures.alone c.rest_of_value.ensures.some

pub returns-in-Begun : goal.returns-in-Begun
returns-in-Begun c = λ p valid fits. rest-begun p c.args.self.now c.deref-machine.result.now c.self.inside.focus (sym c.self.view_is ∙ ap (seen_at c.self.inside.focus) (sym c.deref-machine.ensures)) fits valid c.in-Begun._n c.in-Begun.is

pub returns-in-Form : goal.returns-in-Form
returns-in-Form c = λ p valid fits. rest-form p c.args.self.now c.deref-machine.result.now c.self.inside.focus (sym c.self.view_is ∙ ap (seen_at c.self.inside.focus) (sym c.deref-machine.ensures)) fits c.in-Form.is

pub returns-in-Act : goal.returns-in-Act
returns-in-Act c = λ p valid fits. rest-act p c.args.self.now c.deref-machine.result.now c.self.inside.focus (sym c.self.view_is ∙ ap (seen_at c.self.inside.focus) (sym c.deref-machine.ensures)) fits c.in-Act._a c.in-Act.is
