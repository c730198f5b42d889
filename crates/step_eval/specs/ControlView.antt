-- A control without addresses, and the expression that it stands for.
use Rattle.std.specs.Prelude.{◌≡◌, ◌<◌, ⊤, List, [], length, slice_get, Option, Some, None}
use Rattle.stab_base.specs.Datum.{Datum}
use Rattle.stab_base.specs.declared.fault.Fault.{Fault}
use Rattle.stab_base.specs.declared.numbers.Seq.{Seq}
use Rattle.stab_code.specs.declared.node_id.NodeId.{NodeId}
use Rattle.stab_code.specs.Program.{ProgramParts, tree_at}
use Rattle.language.specs.Outcome.{told}
use Rattle.language.specs.Expression.{Expr, failed, put}
use Rattle.language.specs.Expression as expr
use Rattle.language.specs.Program.{body}
use Rattle.language.specs.Program as plain
use Rattle.step_eval.specs.declared.act.Act.{Act}
use Rattle.step_eval.specs.declared.machine.Focus.{Focus}
use Rattle.step_eval.specs.declared.machine.Focus.TheVariants as focus
use Rattle.step_eval.specs.declared.machine.Running.{Running}
use Rattle.step_eval.specs.Acts.{act_with}
use Rattle.step_eval.specs.FrameView.{FrameView}
use Rattle.step_eval.specs.Fits.{FramesFit, IsForm}
use Rattle.step_eval.specs.Meaning.{form_at, node_at, within_forms}
use Rattle.step_eval.specs.Operands.{HasOperands}
use Rattle.step_eval.specs.Ready.{IsSettled}
use Rattle.step_eval.specs.Scoped.{IsScoped}
use Rattle.step_eval.specs.Turns.{turn_at}
use Rattle.step_eval.specs.View.{here_of, round_of}

-- a node that is no literal and no variable and is to be evaluated with these values of variables, a form whose parts that count are values, the same where it is an act, a value, or a fault
pub data FocusView : Type 0 where
  begun : NodeId → List Datum → FocusView
  settled : FrameView → FocusView
  acting : Act → FrameView → FocusView
  value : Datum → FocusView
  fault : Fault → FocusView

-- what is looked at, the forms round it, the innermost first, and the number of the innermost section among them
pub record ControlView : Type 0 where
  pub focus : FocusView
  pub round : List FrameView
  pub mark : Option Seq

abbrev pub focus_view : Focus → FrameView → FocusView
focus_view (focus.Begun n) here = begun n here.env
focus_view focus.Form here = settled here
focus_view (focus.Act a) here = acting a here
focus_view (focus.Value v) here = value v
focus_view (focus.Fault k) here = fault k

abbrev pub view_of : Running → ControlView
view_of r = record { focus = focus_view r.focus (here_of r.machine); round = round_of r.machine; mark = r.machine.mark }

module _ (p : ProgramParts) where
  -- what is looked at, as an expression
  abbrev pub focus_expr : FocusView → Expr
  focus_expr (begun n env) = put (slice_get env) (plain.expr_of (tree_at p n))
  focus_expr (settled here) = form_at p here
  focus_expr (acting a here) = form_at p here
  focus_expr (value v) = expr.value v
  focus_expr (fault k) = failed k

  -- the expression of a control: what is looked at, within its frames
  abbrev pub expr_of : ControlView → Expr
  expr_of c = within_forms p c.round (focus_expr c.focus)

  abbrev pub FocusFits : FocusView → List FrameView → Type 0
  FocusFits (begun n env) round = (n.0 < length p.nodes) × IsForm (node_at p n).head × IsScoped (length env) (tree_at p n)
  FocusFits (settled here) round = IsSettled p here × (told (turn_at p here) ≡ None)
  FocusFits (acting a here) round = IsSettled p here × (told (turn_at p here) ≡ Some (act_with (body p) here.done a)) × HasOperands p (length here.done) a
  FocusFits (value v) round = ⊤
  FocusFits (fault k) round = round ≡ []

  -- each node, slot and function number in the control is the program's, each variable has a value, and an act has its operands
  pub record Fits (c : ControlView) : Type 0 where
    pub focus : FocusFits c.focus c.round
    pub frames : FramesFit p c.mark c.round

-- a form that is begun is to be searched, and so is a value within frames
abbrev pub IsFound : FocusView → List FrameView → Type 0
IsFound (begun n env) round = ⊥
IsFound (value v) round = round ≡ []
IsFound what round = ⊤

-- the control's redex is found, if it has one
abbrev pub RedexIsFound : ControlView → Type 0
RedexIsFound c = IsFound c.focus c.round
