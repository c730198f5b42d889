-- When a control has ended.
use Rattle.std.proofs.Common.{◌≡◌, List, [], ◌∷◌, map, refl, ap, sym, ◌∙◌, subst}
use Rattle.std.specs.Arc.{arc_value}
use Rattle.stab_base.specs.Datum.{Datum}
use Rattle.stab_base.specs.declared.fault.Fault.{Fault}
use Rattle.stab_code.specs.declared.node_id.NodeId.{NodeId}
use Rattle.stab_code.specs.Program.{ProgramParts}
use Rattle.stab_code.specs.Valid.{IsValid}
use Rattle.language.specs.declared.head.Head.{Head}
use Rattle.language.specs.Expression.{Expr, Parts, value, form}
use Rattle.language.specs.Redex.{Frame, within}
use Rattle.step_eval.specs.declared.act.Act.{Act}
use Rattle.step_eval.specs.declared.machine.Focus.{Focus}
use Rattle.step_eval.specs.declared.machine.Focus.TheVariants as focus
use Rattle.step_eval.specs.declared.machine.Machine.{Machine}
use Rattle.step_eval.specs.declared.rest.Rest.{Rest}
use Rattle.step_eval.specs.declared.rest.Rest.TheVariants.{Going, Done, Failed}
use Rattle.step_eval.specs.ControlView.{ControlView, Fits, expr_of as expr_in}
use Rattle.step_eval.specs.Seen.{seen_at}
use Rattle.step_eval.specs.FrameView.{FrameView}
use Rattle.step_eval.specs.Meaning.{within_forms}
use Rattle.step_eval.specs.Rests.{rest_of}
use Rattle.step_eval.specs.View.{round_of}
use Rattle.step_eval.proofs.Forms.{form-start}

within-form : (fs : List Frame) (h : Head) (ps : Parts) → rest_of (within fs (form h ps)) ≡ Going
within-form [] h ps = refl
within-form (f ∷ fs) h ps = within-form fs f.head _

-- what stands within forms goes on
pub within-some : (p : ProgramParts) (round : List FrameView) (e : Expr) → (round ≡ [] → ⊥) → rest_of (within_forms p round e) ≡ Going
within-some p [] e some = absurd (some refl)
within-some p (f ∷ round) e some = within-form (map _ round) _ _

-- and so does a form
pub form-goes : (p : ProgramParts) (round : List FrameView) (h : Head) (ps : Parts) → rest_of (within_forms p round (form h ps)) ≡ Going
form-goes p round h ps = within-form (map _ round) h ps

module _ (p : ProgramParts) (v : ControlView) (m : Machine) (g : Focus) (is : v ≡ seen_at g m) (fits : Fits p v) where
  looks : (f : Focus) → g ≡ f → v ≡ seen_at f m
  looks f at = is ∙ ap (λ h. seen_at h m) at

  fits-by : (f : Focus) → g ≡ f → Fits p (seen_at f m)
  fits-by f at = let P : ControlView → Type 0 = λ (x : ControlView). Fits p x in subst P (looks f at) fits

  rest-by : (f : Focus) (r : Rest) → g ≡ f → rest_of (expr_in p (seen_at f m)) ≡ r → r ≡ rest_of (expr_in p v)
  rest-by f r at e = sym (ap (λ x. rest_of (expr_in p x)) (looks f at) ∙ e)

  pub rest-begun : IsValid p → (n : NodeId) → g ≡ focus.Begun n → Going ≡ rest_of (expr_in p v)
  rest-begun valid n at =
      let its = (fits-by (focus.Begun n) at).focus in
      rest-by (focus.Begun n) Going at (ap (λ e. rest_of (within_forms p (round_of m) e)) (form-start p valid n its.0 (arc_value m.env) its.1) ∙ form-goes p (round_of m) _ _)

  pub rest-form : g ≡ focus.Form → Going ≡ rest_of (expr_in p v)
  rest-form at = rest-by focus.Form Going at (form-goes p (round_of m) _ _)

  pub rest-act : (a : Act) → g ≡ focus.Act a → Going ≡ rest_of (expr_in p v)
  rest-act a at = rest-by (focus.Act a) Going at (form-goes p (round_of m) _ _)

  pub rest-fault : (k : Fault) → g ≡ focus.Fault k → Failed k ≡ rest_of (expr_in p v)
  rest-fault k at = rest-by (focus.Fault k) (Failed k) at refl

  value-by : (u : Datum) (r : Rest) → (round_of m ≡ [] → r ≡ Done) → ((round_of m ≡ [] → ⊥) → r ≡ Going) → (round : List FrameView) → round_of m ≡ round → rest_of (within_forms p round (value u)) ≡ r
  value-by u r alone some [] e = sym (alone e)
  value-by u r alone some (f ∷ fs) e = within-some p (f ∷ fs) (value u) (λ h. cc) ∙ sym (some (λ h. cc))

  pub rest-value : (u : Datum) (r : Rest) → g ≡ focus.Value u → (round_of m ≡ [] → r ≡ Done) → ((round_of m ≡ [] → ⊥) → r ≡ Going) → r ≡ rest_of (expr_in p v)
  rest-value u r at alone some = rest-by (focus.Value u) r at (value-by u r alone some (round_of m) refl)
