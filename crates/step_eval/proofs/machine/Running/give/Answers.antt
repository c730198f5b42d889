-- A value comes to the innermost frame.
use Rattle.std.proofs.Common.{◌≡◌, ◌∷◌, ◌++◌, refl, ap, sym, ◌∙◌}
use Rattle.std.specs.Prelude.{option_map, option_to_list}
use Rattle.language.specs.Expression.{value}
use Rattle.step_eval.specs.ControlView.{view_of}
use Rattle.step_eval.specs.FrameView.{FrameView}
use Rattle.step_eval.specs.Meaning.{form_at, within_forms}
use Rattle.shared_stack.specs.Linked.{popped_of}
use Rattle.step_eval.specs.View.{here_of, round_of}
use Rattle.step_eval.proofs.Arriving.{arrives-by}
use Rattle.step_eval.proofs.Standing.{give-form}
use Rattle.step_eval.proofs.machine.Running.give.Goals as goal

pub returns-in_ok-arrive-in-Form : goal.returns-in_ok-arrive-in-Form
returns-in_ok-arrive-in-Form c =
    let p = c.args.p.now in
    let popped : round_of c.args.self.now.machine ≡ popped_of c.in-Some.frame ∷ round_of c.pop_frame.new.self = c.in_ok-popped.ensures.round ∙ ap (λ o. option_to_list (option_map popped_of o) ++ round_of c.pop_frame.new.self) c.in-Some.is in
    let same =
    ap (λ r. within_forms p r (form_at p (here_of c.open.new.self))) c.open.ensures.round
    ∙ ap (λ (h : FrameView). within_forms p (round_of c.pop_frame.new.self) (form_at p h)) c.in_ok-open.ensures.here
    ∙ give-form p (popped_of c.in-Some.frame) c.args.v (round_of c.pop_frame.new.self)
    ∙ ap (λ r. within_forms p r (value c.args.v)) (sym popped) in
    arrives-by p (view_of c.arrive.new.self) (view_of c.arrive.new.self) _ _ refl same c.in_ok-arrive-in-Form.ensures
