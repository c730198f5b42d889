-- A literal and a variable have values.
use Rattle.std.proofs.Common.{ap}
use Rattle.stab_base.specs.Datum.{unit, truth, int, text}
use Rattle.language.specs.Program.{form_of}
use Rattle.step_eval.proofs.Forms.{head-is}
use Rattle.step_eval.proofs.Searching.{has-value, has-variable}
use Rattle.step_eval.proofs.depth.is_form.Goals as goal

pub returns-in-Unit-clause-leaf : goal.returns-in-Unit-clause-leaf
returns-in-Unit-clause-leaf c = has-value c.args.p.now c.node_at.ensures.valid c.args.n c.requires unit (λ ps. ap (λ h. form_of h ps) (head-is c.args.p.now c.args.n _ _ _ c.node_at.ensures.node c.head.ensures c.in-Unit.is))

pub returns-in-Truth-clause-leaf : goal.returns-in-Truth-clause-leaf
returns-in-Truth-clause-leaf c = has-value c.args.p.now c.node_at.ensures.valid c.args.n c.requires (truth c.in-Truth._b) (λ ps. ap (λ h. form_of h ps) (head-is c.args.p.now c.args.n _ _ _ c.node_at.ensures.node c.head.ensures c.in-Truth.is))

pub returns-in-Int-clause-leaf : goal.returns-in-Int-clause-leaf
returns-in-Int-clause-leaf c = has-value c.args.p.now c.node_at.ensures.valid c.args.n c.requires (int c.in-Int._k) (λ ps. ap (λ h. form_of h ps) (head-is c.args.p.now c.args.n _ _ _ c.node_at.ensures.node c.head.ensures c.in-Int.is))

pub returns-in-Text-clause-leaf : goal.returns-in-Text-clause-leaf
returns-in-Text-clause-leaf c = has-value c.args.p.now c.node_at.ensures.valid c.args.n c.requires (text c.in-Text._t.0) (λ ps. ap (λ h. form_of h ps) (head-is c.args.p.now c.args.n _ _ _ c.node_at.ensures.node c.head.ensures c.in-Text.is))

pub returns-in-Var-clause-leaf : goal.returns-in-Var-clause-leaf
returns-in-Var-clause-leaf c = has-variable c.args.p.now c.node_at.ensures.valid c.args.n c.requires c.in-Var._slot (head-is c.args.p.now c.args.n _ _ _ c.node_at.ensures.node c.head.ensures c.in-Var.is)
