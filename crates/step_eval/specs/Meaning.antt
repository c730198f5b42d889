-- The expression that a form stands for while it is being evaluated.
use Rattle.std.specs.Prelude.{ℕ, ◌+◌, List, [], ◌∷◌, ◌++◌, length, map, drop, slice_get, unwrap_or}
use Rattle.stab_base.specs.Datum.{Datum}
use Rattle.stab_code.specs.declared.head.Head as code
use Rattle.stab_code.specs.declared.head.Head.TheVariants.{Unit, Block}
use Rattle.stab_code.specs.declared.node_id.NodeId.{NodeId}
use Rattle.stab_code.specs.Heads.{strict_parts}
use Rattle.stab_code.specs.Nodes.{NodeParts, node_of}
use Rattle.stab_code.specs.Program.{ProgramParts, trees_at}
use Rattle.language.specs.declared.head.Head.{Head}
use Rattle.language.specs.declared.head.Head.TheVariants as head
use Rattle.language.specs.Expression.{Expr, form, Parts, none, put_parts}
use Rattle.language.specs.Program.{form_of, exprs_of}
use Rattle.language.specs.Redex.{Frame, after_values, within}
use Rattle.step_eval.specs.declared.site.Site.{Site}
use Rattle.step_eval.specs.declared.site.Site.TheVariants.{Form, Section}
use Rattle.step_eval.specs.FrameView.{FrameView}

-- the node of a number; where there is none, a form without parts
abbrev pub node_at : ProgramParts → NodeId → NodeParts
node_at p n = unwrap_or (slice_get p.nodes n.0) (node_of Unit [])

-- what is left of a block without so many of its first items
abbrev pub head_left : ℕ → code.Head → code.Head
head_left from (Block slots) = Block (drop from slots)
head_left from h = h

abbrev pub head_in : Expr → Head
head_in (form h ps) = h
head_in e = head.Cut

-- what a form of a program that is no literal and no variable is in an expression
abbrev pub head_of : code.Head → Head
head_of h = head_in (form_of h none)

abbrev pub head_at : ProgramParts → Site → Head
head_at p (Form n from) = head_of (head_left from (node_at p n).head)
head_at p (Section m outer) = head.Section m

-- how many of the form's parts have to be values before it steps
abbrev pub strict_at : ProgramParts → Site → ℕ
strict_at p (Form n from) = strict_parts (node_at p n).head (length (node_at p n).parts)
strict_at p (Section m outer) = 1

-- the parts that wait from the k-th on
abbrev pub waiting_at : ProgramParts → Site → ℕ → Parts
waiting_at p (Form n from) k = exprs_of (trees_at p (drop (from + k) (node_at p n).parts))
waiting_at p (Section m outer) k = none

-- those behind the values so far, with the values of the variables
abbrev pub behind_values : ProgramParts → FrameView → Parts
behind_values p v = put_parts (slice_get v.env) (waiting_at p v.site (length v.done))

-- the form, whose first parts are values
abbrev pub form_at : ProgramParts → FrameView → Expr
form_at p v = form (head_at p v.site) (after_values v.done (behind_values p v))

-- the form round its next part
abbrev pub frame_at : ProgramParts → FrameView → Frame
frame_at p v = record { head = head_at p v.site; left = v.done; right = put_parts (slice_get v.env) (waiting_at p v.site (length v.done + 1)) }

-- an expression within forms, the innermost first
abbrev pub within_forms : ProgramParts → List FrameView → Expr → Expr
within_forms p round e = within (map (frame_at p) round) e

-- a node's form without so many of its items, which has these values
abbrev pub at_form : NodeId → ℕ → List Datum → List Datum → FrameView
at_form n from done env = record { site = Form n from; done = done; env = env }

-- a node's form before it has a value
abbrev pub at_start : NodeId → List Datum → FrameView
at_start n env = at_form n 0 [] env

-- one value more
abbrev pub with_value : FrameView → Datum → FrameView
with_value f v = record { site = f.site; done = f.done ++ v ∷ []; env = f.env }
