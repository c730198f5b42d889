-- The mark of a control is that of its expression, whether its redex is found or is still to be searched.
use Rattle.std.proofs.Common.{◌≡◌, List, [], ◌∷◌, slice_get, Option, Some, None, option_map, refl, ap, sym, ◌∙◌, subst}
use Rattle.stab_base.specs.Datum.{Datum}
use Rattle.stab_base.specs.declared.fault.Fault.{Fault}
use Rattle.stab_base.specs.declared.numbers.Seq.{Seq}
use Rattle.stab_code.specs.Program.{ProgramParts}
use Rattle.stab_code.specs.Valid.{IsValid}
use Rattle.language.specs.Expression.{Expr, value}
use Rattle.language.specs.Redex.{mark}
use Rattle.step_eval.specs.declared.machine.Focus.{Focus}
use Rattle.step_eval.specs.declared.machine.Focus.TheVariants as focus
use Rattle.step_eval.specs.declared.machine.Machine.{Machine}
use Rattle.step_eval.specs.ControlView.{ControlView, Fits, focus_expr, focus_view, expr_of as expr_in}
use Rattle.step_eval.specs.Seen.{seen_at}
use Rattle.step_eval.specs.FrameView.{FrameView}
use Rattle.step_eval.specs.Fits.{FramesFit, outside}
use Rattle.step_eval.specs.Meaning.{within_forms}
use Rattle.step_eval.specs.View.{here_of, round_of}
use Rattle.step_eval.proofs.Redexes.{mark_within, none_left}
use Rattle.step_eval.proofs.Settling as search

-- the innermost frame is one, and it is there where there are frames
pub no-first : (xs : List FrameView) (x : FrameView) → xs ≡ [] → slice_get xs 0 ≡ Some x → ⊥
no-first [] x none first = cc
no-first (y ∷ xs) x none first = cc

pub first-same : (xs : List FrameView) (x y : FrameView) → slice_get xs 0 ≡ Some x → slice_get xs 0 ≡ Some y → x ≡ y
first-same xs x y first other = let both : Some x ≡ Some y = sym first ∙ other in cc

module _ (p : ProgramParts) (valid : IsValid p) where
  abbrev HasMark : Option Seq → Expr → Type 0
  HasMark mk e = option_map (λ m. m.0) mk ≡ mark e

  value-mark : (mk : Option Seq) (round : List FrameView) (o : Option Seq) (v : Datum) → FramesFit p mk round → (round ≡ [] → o ≡ mk) → ((f : FrameView) → slice_get round 0 ≡ Some f → o ≡ outside mk f.site) →
      option_map (λ m. m.0) o ≡ mark (within_forms p round (value v))
  value-mark mk [] o v fit alone inside = ap (option_map (λ m. m.0)) (alone refl ∙ fit)
  value-mark mk (f ∷ fs) o v fit alone inside =
      ap (option_map (λ m. m.0)) (inside f refl) ∙ search.value-within p valid HasMark (mark_within p) mk f fs v fit

  mark-by : (f : Focus) (h : FrameView) (round : List FrameView) (mk : Option Seq) → ((v : Datum) → f ≡ focus.Value v → ⊥) → Fits p (record { focus = focus_view f h; round = round; mark = mk }) → option_map (λ m. m.0) mk ≡ mark (within_forms p round (focus_expr p (focus_view f h)))
  mark-by (focus.Begun n) h round mk other fits = search.begun p valid HasMark (mark_within p) mk round n h.env fits.focus.0 fits.focus.1 fits.focus.2 fits.frames
  mark-by focus.Form h round mk other fits = mark_within p mk round h fits.frames fits.focus.0
  mark-by (focus.Act a) h round mk other fits = mark_within p mk round h fits.frames fits.focus.0
  mark-by (focus.Value v) h round mk other fits = absurd (other v refl)
  mark-by (focus.Fault k) h round mk other fits = ap (option_map (λ m. m.0)) (none_left p mk round fits.frames fits.focus) ∙ sym (ap (λ fs. mark (within_forms p fs (focus_expr p (focus_view (focus.Fault k) h)))) fits.focus)

  seen-mark : (f : Focus) (m : Machine) → ((v : Datum) → f ≡ focus.Value v → ⊥) → ((k : Fault) → f ≡ focus.Fault k → ⊥) → Fits p (seen_at f m) → option_map (λ q. q.0) m.mark ≡ mark (expr_in p (seen_at f m))
  seen-mark (focus.Begun n) m other unfailed fits = mark-by (focus.Begun n) (here_of m) (round_of m) m.mark other fits
  seen-mark focus.Form m other unfailed fits = mark-by focus.Form (here_of m) (round_of m) m.mark other fits
  seen-mark (focus.Act a) m other unfailed fits = mark-by (focus.Act a) (here_of m) (round_of m) m.mark other fits
  seen-mark (focus.Value v) m other unfailed fits = absurd (other v refl)
  seen-mark (focus.Fault k) m other unfailed fits = absurd (unfailed k refl)

  module _ (c : ControlView) (m : Machine) (g : Focus) (is : c ≡ seen_at g m) (fits : Fits p c) where
    its-fit : (f : Focus) → g ≡ f → Fits p (seen_at f m)
    its-fit f at = let P : ControlView → Type 0 = λ (x : ControlView). Fits p x in subst P (is ∙ ap (λ h. seen_at h m) at) fits

    -- of a control that looks at unfailed value and unfailed fault
    pub mark-is : ((v : Datum) → g ≡ focus.Value v → ⊥) → ((k : Fault) → g ≡ focus.Fault k → ⊥) → option_map (λ q. q.0) m.mark ≡ mark (expr_in p c)
    mark-is other unfailed = seen-mark g m other unfailed (its-fit g refl) ∙ sym (ap (λ (x : ControlView). mark (expr_in p x)) is)

    -- of one that looks at a value
    pub mark-of-value : (v : Datum) (o : Option Seq) → g ≡ focus.Value v → (round_of m ≡ [] → o ≡ m.mark) → ((f : FrameView) → slice_get (round_of m) 0 ≡ Some f → o ≡ outside m.mark f.site) → option_map (λ q. q.0) o ≡ mark (expr_in p c)
    mark-of-value v o at alone inside =
        value-mark m.mark (round_of m) o v (its-fit (focus.Value v) at).frames alone inside
        ∙ sym (ap (λ (x : ControlView). mark (expr_in p x)) (is ∙ ap (λ h. seen_at h m) at))

    -- and of a fault
    pub mark-of-fault : (k : Fault) → g ≡ focus.Fault k → option_map (λ (q : Seq). q.0) None ≡ mark (expr_in p c)
    mark-of-fault k at = sym (ap (λ (x : ControlView). mark (expr_in p x)) (is ∙ ap (λ h. seen_at h m) at))
