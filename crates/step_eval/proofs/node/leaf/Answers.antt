use Rattle.std.proofs.Common.{◌≡◌, Some, ap, sym, ◌∙◌, rules}
use Rattle.stab_base.specs.Datum.{unit, truth, int, text}
use Rattle.language.specs.Expression.{value}
use Rattle.language.specs.Program.{form_of}
use Rattle.step_eval.proofs.Forms.{leaf-value, leaf-variable, slot-there}
use Rattle.step_eval.proofs.node.leaf.Goals as goal

pub value_at-requires : goal.value_at-requires
value_at-requires c = slot-there c.args.p.now c.head_at.ensures.valid c.args.n c.requires.there _ c.in-Var.slot (sym c.head_at.ensures.head ∙ c.in-Var.is) c.requires.scoped

pub returns-in-Unit-clause-value : goal.returns-in-Unit-clause-value
returns-in-Unit-clause-value c =
    let e : c.unit.result ≡ unit = search rules in
    leaf-value c.args.p.now c.head_at.ensures.valid c.args.n c.requires.there c.args.values.now c.unit.result (λ ps. ap (λ h. form_of h ps) (sym c.head_at.ensures.head ∙ c.in-Unit.is) ∙ ap value (sym e))

pub returns-in-Truth-clause-value : goal.returns-in-Truth-clause-value
returns-in-Truth-clause-value c =
    let e : c.truth.result ≡ truth c.in-Truth.b = search rules in
    leaf-value c.args.p.now c.head_at.ensures.valid c.args.n c.requires.there c.args.values.now c.truth.result (λ ps. ap (λ h. form_of h ps) (sym c.head_at.ensures.head ∙ c.in-Truth.is) ∙ ap value (sym e))

pub returns-in-Int-clause-value : goal.returns-in-Int-clause-value
returns-in-Int-clause-value c =
    let e : c.int.result ≡ int c.in-Int.k = search rules in
    leaf-value c.args.p.now c.head_at.ensures.valid c.args.n c.requires.there c.args.values.now c.int.result (λ ps. ap (λ h. form_of h ps) (sym c.head_at.ensures.head ∙ c.in-Int.is) ∙ ap value (sym e))

pub returns-in-Text-clause-value : goal.returns-in-Text-clause-value
returns-in-Text-clause-value c =
    let e : c.text.result ≡ text c.in-Text.t.0 = search rules in
    leaf-value c.args.p.now c.head_at.ensures.valid c.args.n c.requires.there c.args.values.now c.text.result (λ ps. ap (λ h. form_of h ps) (sym c.head_at.ensures.head ∙ c.in-Text.is) ∙ ap value (sym e))

pub returns-in_ok-twin-in-Var-clause-value : goal.returns-in_ok-twin-in-Var-clause-value
returns-in_ok-twin-in-Var-clause-value c =
    leaf-variable c.args.p.now c.head_at.ensures.valid c.args.n c.requires.there c.args.values.now c.in-Var.slot _ (sym c.head_at.ensures.head ∙ c.in-Var.is) (c.value_at.ensures ∙ ap Some (sym c.in_ok-twin-in-Var.ensures))
