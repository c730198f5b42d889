-- A node that is no leaf is its form.
use Rattle.std.proofs.Common.{ℕ, length, refl, ap, sym, ◌∙◌, subst}
use Rattle.std.specs.Arc.{arc_value}
use Rattle.step_eval.specs.ControlView.{view_of}
use Rattle.step_eval.specs.FrameView.{FrameView}
use Rattle.step_eval.specs.Fits.{FormFits, IsForm}
use Rattle.step_eval.specs.Meaning.{form_at, node_at, within_forms}
use Rattle.step_eval.specs.View.{here_of, round_of}
use Rattle.step_eval.proofs.Arriving.{arrives-by}
use Rattle.step_eval.proofs.Forms.{fits-start, form-start}
use Rattle.step_eval.proofs.Standing.{begins-left}
use Rattle.step_eval.proofs.machine.Running.start.Goals as goal

pub arrive-requires-clause-fits : goal.arrive-requires-clause-fits
arrive-requires-clause-fits c =
    let p = c.args.p.now in
    let is : IsForm (node_at p c.args.n).head = rw c.in-None.is at c.in_ok-v.ensures.value in
    let P : ℕ → Type 0 = λ (k : ℕ). FormFits p c.args.n 0 k in
    subst P (sym (ap (λ (v : FrameView). length v.env) c.begin.ensures.here))
    (fits-start p c.in_ok-v.ensures.valid c.args.n c.requires.there (length (arc_value c.args.self.now.machine.env)) is (begins-left p c.in_ok-v.ensures.valid c.args.n c.requires.there) c.requires.scoped)

pub returns-in_ok-arrive-in-None : goal.returns-in_ok-arrive-in-None
returns-in_ok-arrive-in-None c =
    let p = c.args.p.now in
    let is : IsForm (node_at p c.args.n).head = rw c.in-None.is at c.in_ok-v.ensures.value in
    let same =
    ap (λ r. within_forms p r (form_at p (here_of c.begin.new.self))) c.begin.ensures.round
    ∙ ap (λ (h : FrameView). within_forms p (round_of c.args.self.now.machine) (form_at p h)) c.begin.ensures.here
    ∙ ap (within_forms p (round_of c.args.self.now.machine)) (sym (form-start p c.in_ok-v.ensures.valid c.args.n c.requires.there (arc_value c.args.self.now.machine.env) is)) in
    arrives-by p (view_of c.arrive.new.self) (view_of c.arrive.new.self) _ _ refl same c.in_ok-arrive-in-None.ensures
