-- The form at hand while its parts get values.
use Rattle.std.specs.Prelude.{◌≡◌, ℕ, ◌+◌, ◌<◌, List, length, slice_get, Option, Some, None}
use Rattle.stab_base.specs.Datum.{Datum}
use Rattle.stab_base.specs.declared.numbers.Seq.{Seq}
use Rattle.stab_code.specs.declared.node_id.NodeId.{NodeId}
use Rattle.stab_code.specs.Program.{ProgramParts, tree_at}
use Rattle.language.specs.Expression.{value, put}
use Rattle.language.specs.Program.{expr_of}
use Rattle.step_eval.specs.declared.site.Site.TheVariants.{Form}
use Rattle.step_eval.specs.FrameView.{FrameView}
use Rattle.step_eval.specs.Fits.{IsForm, FormFits, FramesFit, SiteFits}
use Rattle.step_eval.specs.Meaning.{node_at, form_at, at_start, strict_at}

-- a node that has a value at once has it, and one that hasn't is a form
abbrev pub IsLeaf : ProgramParts → NodeId → List Datum → Option Datum → Type 0
IsLeaf p n env None = IsForm (node_at p n).head
IsLeaf p n env (Some v) = put (slice_get env) (expr_of (tree_at p n)) ≡ value v

-- the next part of the form at hand, which has no value yet
pub record IsNext (p : ProgramParts) (n : NodeId) (from : ℕ) (here : FrameView) (q : NodeId) : Type 0 where
  pub is_part : slice_get (node_at p n).parts (from + length here.done) ≡ Some q
  pub begins : put (slice_get here.env) (expr_of (tree_at p q)) ≡ form_at p (at_start q here.env)
  pub fits : FormFits p q 0 (length here.env)
  pub below : q.0 < n.0
  pub few : length here.done < strict_at p (Form n from)

-- the form at hand has a value for each of its parts that count
pub record IsSettled (p : ProgramParts) (here : FrameView) : Type 0 where
  pub fits : SiteFits p here.site (length here.env)
  pub all : length here.done ≡ strict_at p here.site

-- the next part, where there is one that has to be a value and isn't
abbrev pub IsNextPart : ProgramParts → FrameView → NodeId → ℕ → Option NodeId → Type 0
IsNextPart p here n from None = IsSettled p here
IsNextPart p here n from (Some q) = IsNext p n from here q

-- the form at hand steps, within these frames
pub record IsStepping (p : ProgramParts) (n : NodeId) (from : ℕ) (here : FrameView) (mark : Option Seq) (round : List FrameView) : Type 0 where
  pub at : here.site ≡ Form n from
  pub settled : IsSettled p here
  pub frames : FramesFit p mark round
