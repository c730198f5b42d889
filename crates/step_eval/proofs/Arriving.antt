-- Controls whose redex is found.
use Rattle.std.proofs.Common.{◌≡◌, ℕ, ◌+◌, ◌<◌, ◌≤◌, List, [], ◌∷◌, ◌++◌, length, Option, None, refl, ap, sym, ◌∙◌, subst, arith, length-append}
use Rattle.stab_base.specs.Datum.{Datum}
use Rattle.stab_base.specs.declared.fault.Fault.{Fault}
use Rattle.stab_base.specs.declared.numbers.Seq.{Seq}
use Rattle.stab_code.specs.declared.node_id.NodeId.{NodeId}
use Rattle.stab_code.specs.Program.{ProgramParts}
use Rattle.language.specs.Expression.{Expr, failed}
use Rattle.step_eval.specs.declared.machine.Focus.{Focus}
use Rattle.step_eval.specs.declared.machine.Focus.TheVariants as focus
use Rattle.step_eval.specs.declared.machine.Running.{Running}
use Rattle.step_eval.specs.declared.site.Site.{Site}
use Rattle.step_eval.specs.declared.site.Site.TheVariants.{Form, Section}
use Rattle.step_eval.specs.Arrival.{Arrives}
use Rattle.step_eval.specs.ControlView.{ControlView, focus_view, view_of}
use Rattle.step_eval.specs.FrameView.{FrameView}
use Rattle.step_eval.specs.Fits.{FormFits, FramesFit, SiteFits}
use Rattle.step_eval.specs.Meaning.{strict_at, with_value}
use Rattle.step_eval.specs.Ready.{IsSettled}
use Rattle.step_eval.specs.View.{here_of, round_of}

abbrev pub viewed : Focus → FrameView → List FrameView → Option Seq → ControlView
viewed f h round mk = record { focus = focus_view f h; round = round; mark = mk }

-- what a running machine holds, from its parts
pub view-is : (r : Running) (f : Focus) (h : FrameView) (round : List FrameView) (mk : Option Seq) → r.focus ≡ f → here_of r.machine ≡ h → round_of r.machine ≡ round → r.machine.mark ≡ mk → view_of r ≡ viewed f h round mk
view-is r f h round mk looks here rounds marks =
    ap (λ g. viewed g (here_of r.machine) (round_of r.machine) r.machine.mark) looks
    ∙ ap (λ v. viewed f v (round_of r.machine) r.machine.mark) here
    ∙ ap (λ fs. viewed f h fs r.machine.mark) rounds
    ∙ ap (viewed f h round) marks

pub arrives-by : (p : ProgramParts) (v w : ControlView) (e g : Expr) → v ≡ w → e ≡ g → Arrives p w e → Arrives p v g
arrives-by p v w e g same is a =
    let P : ControlView → Type 0 = λ (x : ControlView). Arrives p x g in
    let Q : Expr → Type 0 = λ (x : Expr). Arrives p w x in
    subst P (sym same) (subst Q is a)

module _ (p : ProgramParts) (f : FrameView) (v : Datum) (round : List FrameView) (mk : Option Seq) (fit : FramesFit p mk (f ∷ round)) where
  pub section-settled : (m : Seq) (outer : Option Seq) → f.site ≡ Section m outer → IsSettled p (with_value f v)
  section-settled m outer at =
      let one : strict_at p f.site ≡ 1 = ap (strict_at p) at in
      let few : length f.done < strict_at p f.site = fit.0.waits in
      let more : length (f.done ++ v ∷ []) ≡ length f.done + 1 = length-append f.done (v ∷ []) in
      let P : Site → Type 0 = λ (s : Site). SiteFits p s (length f.env) in
      record { fits = subst P (sym at) tt; all = omega arith }

  -- a form has one value more
  pub form-fits : (n : NodeId) (from : ℕ) → f.site ≡ Form n from → FormFits p n from (length f.env)
  form-fits n from at = let P : Site → Type 0 = λ (s : Site). SiteFits p s (length f.env) in subst P at fit.0.site

  pub few-values : (n : NodeId) (from : ℕ) → f.site ≡ Form n from → length (f.done ++ v ∷ []) ≤ strict_at p (Form n from)
  few-values n from at =
      let same : strict_at p f.site ≡ strict_at p (Form n from) = ap (strict_at p) at in
      let few : length f.done < strict_at p f.site = fit.0.waits in
      let more : length (f.done ++ v ∷ []) ≡ length f.done + 1 = length-append f.done (v ∷ []) in
      omega arith

-- a fault
pub arrives-fault : (p : ProgramParts) (r : Running) (k : Fault) → r.focus ≡ focus.Fault k → round_of r.machine ≡ [] → r.machine.mark ≡ None → Arrives p (view_of r) (failed k)
arrives-fault p r k looks rounds marks =
    arrives-by p (view_of r) (viewed (focus.Fault k) (here_of r.machine) [] None) (failed k) (failed k)
    (view-is r (focus.Fault k) (here_of r.machine) [] None looks refl rounds marks) refl
    (record { expr = refl; fits = record { focus = refl; frames = refl }; found = tt })
