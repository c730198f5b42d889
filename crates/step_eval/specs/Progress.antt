-- Pure steps of a control.
use Rattle.std.specs.Prelude.{◌≡◌, ℕ, Some, None}
use Rattle.stab_code.specs.Program.{ProgramParts}
use Rattle.language.specs.Look.{language, look}
use Rattle.language.specs.Program.{body}
use Rattle.language.specs.Table.{pure_of, pure_steps}
use Rattle.step_eval.specs.ControlView.{ControlView, Fits, RedexIsFound, expr_of}

-- so many pure steps of a control lead to one that fits the program, whose redex is found
pub record Advances (p : ProgramParts) (origin : ControlView) (steps : ℕ) (end : ControlView) : Type 0 where
  pub made : pure_steps (language (body p)) steps (expr_of p origin) ≡ Some (expr_of p end)
  pub fits : Fits p end
  pub found : RedexIsFound end

-- no pure step of the control is next
abbrev pub Rests : ProgramParts → ControlView → Type 0
Rests p c = pure_of (language (body p)) (look (body p) (expr_of p c)) ≡ None

-- a program, a control, how many pure steps it made, and where it then is
pub record ProgressView : Type 0 where
  pub program : ProgramParts
  pub origin : ControlView
  pub steps : ℕ
  pub end : ControlView
