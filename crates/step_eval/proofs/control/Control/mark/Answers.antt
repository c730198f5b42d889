-- A value may leave a section; whatever else is looked at lies in the innermost.
use Rattle.std.proofs.Common.{ap, sym, ◌∙◌}
use Rattle.std.specs.Prelude.{option_map}
use Rattle.stab_base.specs.declared.numbers.Seq.{Seq}
use Rattle.step_eval.specs.Seen.{seen_at}
use Rattle.step_eval.proofs.Marking.{mark-is, mark-of-fault, mark-of-value}
use Rattle.step_eval.proofs.control.Control.mark.Goals as goal

pub returns-in-Value : goal.returns-in-Value
returns-in-Value c = λ p valid fits. mark-of-value p valid c.args.self.now c.deref-machine.result.now c.self.inside.focus (sym c.self.view_is ∙ ap (seen_at c.self.inside.focus) (sym c.deref-machine.ensures)) fits c.in-Value._v c.mark_round_value.result c.in-Value.is c.mark_round_value.ensures.alone c.mark_round_value.ensures.within

pub returns-in-Fault : goal.returns-in-Fault
returns-in-Fault c = λ p valid fits. mark-of-fault p valid c.args.self.now c.deref-machine.result.now c.self.inside.focus (sym c.self.view_is ∙ ap (seen_at c.self.inside.focus) (sym c.deref-machine.ensures)) fits c.in-Fault._k c.in-Fault.is

pub returns-in_default : goal.returns-in_default
returns-in_default c = λ p valid fits. ap (option_map (λ (m : Seq). m.0)) c.seq.ensures ∙ mark-is p valid c.args.self.now c.deref-machine.result.now c.self.inside.focus (sym c.self.view_is ∙ ap (seen_at c.self.inside.focus) (sym c.deref-machine.ensures)) fits c.in_default.not-Value c.in_default.not-Fault
