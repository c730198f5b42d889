-- What a control stands for when its redex is found.
use Rattle.std.specs.Prelude.{◌≡◌, List, Option, Some, None}
use Rattle.stab_base.specs.declared.fault.Fault.TheVariants.{WrongKind}
use Rattle.stab_code.specs.Program.{ProgramParts}
use Rattle.language.specs.Expression.{Expr, failed}
use Rattle.language.specs.Outcome.{Outcome, becomes, fails, acts}
use Rattle.step_eval.specs.declared.act.Act.{Act}
use Rattle.step_eval.specs.declared.machine.Focus.{Focus}
use Rattle.step_eval.specs.declared.machine.Focus.TheVariants as focus
use Rattle.step_eval.specs.ControlView.{ControlView, Fits, RedexIsFound, expr_of}
use Rattle.step_eval.specs.FrameView.{FrameView}
use Rattle.step_eval.specs.Meaning.{within_forms}

-- a form is looked at as the act that it is, if it is one
abbrev pub form_focus : Option Act → Focus
form_focus None = focus.Form
form_focus (Some a) = focus.Act a

-- the control stands for the expression, fits its program, and its redex is found
pub record Arrives (p : ProgramParts) (c : ControlView) (e : Expr) : Type 0 where
  pub expr : expr_of p c ≡ e
  pub fits : Fits p c
  pub found : RedexIsFound c

-- what the whole becomes by its redex's turn within these forms, before its forms are counted; an act makes nothing
abbrev pub turned : ProgramParts → List FrameView → Outcome → Expr
turned p round (becomes e) = within_forms p round e
turned p round (fails k) = failed k
turned p round (acts a) = failed WrongKind
