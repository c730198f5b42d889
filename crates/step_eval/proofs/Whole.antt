-- The expression of a control that is no end has a redex, so something is next for it that is no end.
use Rattle.std.proofs.Common.{◌≡◌, List, [], ◌∷◌, Option, refl, sym, subst}
use Rattle.std.specs.Prelude.{IsSome}
use Rattle.stab_base.specs.declared.numbers.Seq.{Seq}
use Rattle.stab_code.specs.Program.{ProgramParts}
use Rattle.stab_code.specs.Valid.{IsValid}
use Rattle.language.specs.Expression.{Expr}
use Rattle.language.specs.Redex.{redex}
use Rattle.step_eval.specs.declared.rest.Rest.TheVariants.{Going}
use Rattle.step_eval.specs.ControlView.{ControlView, FocusView, FocusFits, Fits, begun, settled, acting, value, fault, focus_expr, expr_of}
use Rattle.step_eval.specs.FrameView.{FrameView}
use Rattle.step_eval.specs.Fits.{FramesFit}
use Rattle.step_eval.specs.Meaning.{form_at, within_forms}
use Rattle.step_eval.specs.Ready.{IsSettled}
use Rattle.step_eval.specs.Rests.{rest_of}
use Rattle.step_eval.proofs.Redexes.{redex-settled}
use Rattle.step_eval.proofs.Settling as search

module _ (p : ProgramParts) (valid : IsValid p) where
  abbrev HasRedex : Option Seq → Expr → Type 0
  HasRedex mk e = IsSome (redex e)

  has-redex : (mk : Option Seq) (round : List FrameView) (h : FrameView) → FramesFit p mk round → IsSettled p h → HasRedex mk (within_forms p round (form_at p h))
  has-redex mk round h fit is = subst IsSome (sym (redex-settled p mk round h fit is)) refl

  by-focus : (mk : Option Seq) (round : List FrameView) (f : FocusView) → FocusFits p f round → FramesFit p mk round → rest_of (within_forms p round (focus_expr p f)) ≡ Going → IsSome (redex (within_forms p round (focus_expr p f)))
  by-focus mk round (begun n env) fits frames going = search.begun p valid HasRedex has-redex mk round n env fits.0 fits.1 fits.2 frames
  by-focus mk round (settled here) fits frames going = has-redex mk round here frames fits.0
  by-focus mk round (acting a here) fits frames going = has-redex mk round here frames fits.0
  by-focus mk [] (value v) fits frames going = absurd (cc)
  by-focus mk (f ∷ fs) (value v) fits frames going = search.value-within p valid HasRedex has-redex mk f fs v frames
  by-focus mk [] (fault k) fits frames going = absurd (cc)
  by-focus mk (f ∷ fs) (fault k) fits frames going = absurd (cc)

  pub redex-there : (c : ControlView) → Fits p c → rest_of (expr_of p c) ≡ Going → IsSome (redex (expr_of p c))
  redex-there c fits going = by-focus c.mark c.round c.focus fits.focus fits.frames going
