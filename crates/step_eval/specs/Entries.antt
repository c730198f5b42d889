-- What a function's body is for the arguments of a call.
use Rattle.std.specs.Prelude.{◌≡◌, ℕ, ◌<◌, List, [], length, slice_get, Option, Some, None}
use Rattle.stab_base.specs.Datum.{Datum}
use Rattle.stab_code.specs.declared.node_id.NodeId.{NodeId}
use Rattle.stab_code.specs.Program.{ProgramParts, tree_at}
use Rattle.language.specs.Expression.{put}
use Rattle.language.specs.Expression as expr
use Rattle.language.specs.Outcome.{called}
use Rattle.language.specs.Program.{body, expr_of}
use Rattle.step_eval.specs.ControlView.{ControlView, FocusView, begun, value}
use Rattle.step_eval.specs.Fits.{IsForm}
use Rattle.step_eval.specs.Meaning.{node_at}
use Rattle.step_eval.specs.Scoped.{IsScoped}

-- the node is the body of the function, in whose scope so many arguments are
pub record IsBody (p : ProgramParts) (f size : ℕ) (n : NodeId) : Type 0 where
  pub there : n.0 < length p.nodes
  pub scoped : IsScoped size (tree_at p n)
  pub is_called : (args : List Datum) → called (body p) f args ≡ put (slice_get args) (expr_of (tree_at p n))

-- a body that is a literal or a variable has its value at once, and any other is a form of the program
pub record IsFormEntry (p : ProgramParts) (f : ℕ) (args : List Datum) (n : NodeId) : Type 0 where
  pub there : n.0 < length p.nodes
  pub is_form : IsForm (node_at p n).head
  pub scoped : IsScoped (length args) (tree_at p n)
  pub is_called : called (body p) f args ≡ put (slice_get args) (expr_of (tree_at p n))

abbrev pub IsBodyEntry : ProgramParts → ℕ → List Datum → NodeId → Option Datum → Type 0
IsBodyEntry p f args n None = IsFormEntry p f args n
IsBodyEntry p f args n (Some v) = called (body p) f args ≡ expr.value v

abbrev pub entry_focus : NodeId → Option Datum → List Datum → FocusView
entry_focus n None args = begun n args
entry_focus n (Some v) args = value v

-- a control that is to evaluate the node, or has its value
abbrev pub entered : NodeId → Option Datum → List Datum → ControlView
entered n v args = record { focus = entry_focus n v args; round = []; mark = None }
