-- A pure step is what the plain language's table says.
use Rattle.std.proofs.Common.{◌≡◌, ℕ, zero, suc, ◌+◌, List, map, Option, Some, None, refl, ap, sym, ◌∙◌, subst, add-one}
use Rattle.std.specs.Prelude.{option_and_then}
use Rattle.stab_base.specs.declared.numbers.Seq.{Seq}
use Rattle.stab_code.specs.Program.{ProgramParts}
use Rattle.language.specs.Outcome.{told}
use Rattle.language.specs.Expression.{Expr, value, variable, failed, form}
use Rattle.language.specs.Look.{language, look, look_at, look_by}
use Rattle.language.specs.Outcome.{Outcome, becomes, fails, acts}
use Rattle.language.specs.Program.{body}
use Rattle.language.specs.Redex.{Redex, cap, redex}
use Rattle.language.specs.Table.{pure_of, pure_steps}
use Rattle.step_eval.specs.declared.machine.Focus.{Focus}
use Rattle.step_eval.specs.declared.machine.Focus.TheVariants as focus
use Rattle.step_eval.specs.declared.machine.Running.{Running}
use Rattle.step_eval.specs.Arrival.{Arrives, turned}
use Rattle.step_eval.specs.ControlView.{ControlView, Fits, RedexIsFound, expr_of, focus_expr, focus_view, view_of}
use Rattle.step_eval.specs.FrameView.{FrameView}
use Rattle.step_eval.specs.Fits.{FramesFit}
use Rattle.step_eval.specs.Meaning.{form_at, frame_at, within_forms}
use Rattle.step_eval.specs.Progress.{Advances, Rests}
use Rattle.step_eval.specs.Ready.{IsSettled}
use Rattle.step_eval.specs.Turns.{turn_at}
use Rattle.step_eval.specs.View.{here_of, round_of}
use Rattle.step_eval.proofs.Redexes.{redex-settled}

look_some : (bodies : ℕ → Expr) (e : Expr) (r : Redex) → redex e ≡ Some r → look bodies e ≡ look_at bodies (Some r)
look_some bodies (value v) r h = cc
look_some bodies (variable x) r h = cc
look_some bodies (failed k) r h = cc
look_some bodies (form g ps) r h = ap (look_at bodies) h

module _ (p : ProgramParts) where
  -- what is next of a settled form
  pub look-settled : (mk : Option Seq) (fs : List FrameView) (h : FrameView) → FramesFit p mk fs → IsSettled p h → look (body p) (within_forms p fs (form_at p h)) ≡ look_by (map (frame_at p) fs) (turn_at p h)
  look-settled mk fs h fit settled = look_some (body p) (within_forms p fs (form_at p h)) _ (redex-settled p mk fs h fit settled)

  step-of : (round : List FrameView) (o : Outcome) → told o ≡ None → pure_of (language (body p)) (look_by (map (frame_at p) round) o) ≡ Some (cap (turned p round o))
  step-of round (becomes e) none = refl
  step-of round (fails k) none = refl
  step-of round (acts a) none = cc

  pub expr-by : (r : Running) (f : Focus) → r.focus ≡ f → expr_of p (view_of r) ≡ within_forms p (round_of r.machine) (focus_expr p (focus_view f (here_of r.machine)))
  expr-by r f is = ap (λ g. within_forms p (round_of r.machine) (focus_expr p (focus_view g (here_of r.machine)))) is

  pub fits-as : (r : Running) (f : Focus) → r.focus ≡ f → Fits p (view_of r) → Fits p (record { focus = focus_view f (here_of r.machine); round = round_of r.machine; mark = r.machine.mark })
  fits-as r f is fits = let P : Focus → Type 0 = λ (g : Focus). Fits p (record { focus = focus_view g (here_of r.machine); round = round_of r.machine; mark = r.machine.mark }) in subst P is fits

  -- a step of a settled form that is no act
  pub step-made : (r s : Running) → r.focus ≡ focus.Form → Fits p (view_of r) → Arrives p (view_of s) (cap (turned p (round_of r.machine) (turn_at p (here_of r.machine)))) → pure_of (language (body p)) (look (body p) (expr_of p (view_of r))) ≡ Some (expr_of p (view_of s))
  step-made r s is fits arrives =
      let all = fits-as r focus.Form is fits in
      ap (λ e. pure_of (language (body p)) (look (body p) e)) (expr-by r focus.Form is)
      ∙ ap (pure_of (language (body p))) (look-settled r.machine.mark (round_of r.machine) (here_of r.machine) all.frames all.focus.0)
      ∙ step-of (round_of r.machine) (turn_at p (here_of r.machine)) all.focus.1
      ∙ ap Some (sym arrives.expr)

  act-rests : (round : List FrameView) (o : Outcome) (a : _) → told o ≡ Some a → pure_of (language (body p)) (look_by (map (frame_at p) round) o) ≡ None
  act-rests round (becomes e) a is = cc
  act-rests round (fails k) a is = cc
  act-rests round (acts b) a is = refl

  rests-by : (f : Focus) (h : FrameView) (round : List FrameView) (mk : Option Seq) → (f ≡ focus.Form → ⊥) → Fits p (record { focus = focus_view f h; round = round; mark = mk }) → RedexIsFound (record { focus = focus_view f h; round = round; mark = mk }) → Rests p (record { focus = focus_view f h; round = round; mark = mk })
  rests-by (focus.Begun n) h round mk other fits found = elim found [ ]
  rests-by focus.Form h round mk other fits found = absurd (other refl)
  rests-by (focus.Act a) h round mk other fits found =
      ap (pure_of (language (body p))) (look-settled mk round h fits.frames fits.focus.0) ∙ act-rests round (turn_at p h) _ fits.focus.1
  rests-by (focus.Value v) h round mk other fits found = ap (λ r. pure_of (language (body p)) (look (body p) (within_forms p r (value v)))) found
  rests-by (focus.Fault k) h round mk other fits found = ap (λ r. pure_of (language (body p)) (look (body p) (within_forms p r (failed k)))) fits.focus

  -- nothing else has a pure step
  pub rests : (r : Running) → (r.focus ≡ focus.Form → ⊥) → Fits p (view_of r) → RedexIsFound (view_of r) → Rests p (view_of r)
  rests r other fits found = rests-by r.focus (here_of r.machine) (round_of r.machine) r.machine.mark other fits found

  steps-on : (n : ℕ) (o : Option Expr) (f g : Expr) → option_and_then (pure_steps (language (body p)) n) o ≡ Some f → pure_of (language (body p)) (look (body p) f) ≡ Some g → option_and_then (pure_steps (language (body p)) (suc n)) o ≡ Some g
  steps-on zero None f g made next = cc
  steps-on (suc n) None f g made next = cc
  steps-on zero (Some e) f g made next =
      let same : e ≡ f = cc in
      ap (λ x. option_and_then (pure_steps (language (body p)) zero) (pure_of (language (body p)) (look (body p) x))) same ∙ ap (option_and_then (pure_steps (language (body p)) zero)) next
  steps-on (suc n) (Some e) f g made next = steps-on n (pure_of (language (body p)) (look (body p) e)) f g made next

  -- one step more
  pub advance-more : (origin before after : ControlView) (n : ℕ) → Advances p origin n before → pure_of (language (body p)) (look (body p) (expr_of p before)) ≡ Some (expr_of p after) → Fits p after → RedexIsFound after → Advances p origin (n + 1) after
  advance-more origin before after n a next fits found = record {
    made = ap (λ k. pure_steps (language (body p)) k (expr_of p origin)) (add-one n) ∙ steps-on n (Some (expr_of p origin)) (expr_of p before) (expr_of p after) a.made next;
    fits = fits;
    found = found;
  }
