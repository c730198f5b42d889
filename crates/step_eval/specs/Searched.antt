-- A form at hand whose next parts are still to be looked at.
use Rattle.std.specs.Prelude.{◌≡◌, ℕ, ◌≤◌, List, length, slice_get, Option}
use Rattle.stab_base.specs.Datum.{Datum}
use Rattle.stab_code.specs.declared.node_id.NodeId.{NodeId}
use Rattle.stab_code.specs.Program.{ProgramParts, tree_at}
use Rattle.language.specs.Expression.{put, value}
use Rattle.language.specs.Program.{expr_of}
use Rattle.step_eval.specs.declared.site.Site.TheVariants.{Form}
use Rattle.step_eval.specs.FrameView.{FrameView}
use Rattle.step_eval.specs.Fits.{FormFits}
use Rattle.step_eval.specs.Meaning.{at_form, form_at, strict_at}
use Rattle.step_eval.specs.Ready.{IsNextPart}
use Rattle.step_eval.specs.Scoped.{IsScoped}

-- a literal or a variable, which has a value wherever its variable has one
abbrev pub HasValue : ProgramParts → NodeId → Type 0
HasValue p n = (env : List Datum) → IsScoped (length env) (tree_at p n) → (v : Datum) × (put (slice_get env) (expr_of (tree_at p n)) ≡ value v)

-- a node's form at hand, so many parts of which have values
pub record IsSearched (p : ProgramParts) (n : NodeId) (from taken : ℕ) (here : FrameView) : Type 0 where
  pub at : here.site ≡ Form n from
  pub many : length here.done ≡ taken
  pub few : length here.done ≤ strict_at p (Form n from)
  pub fits : FormFits p n from (length here.env)

-- with the values of the literals and variables that come next the form is the same, and then comes this part, if one is left that counts
pub record LooksPast (p : ProgramParts) (n : NodeId) (from : ℕ) (here : FrameView) (next : Option NodeId) : Type 0 where
  pub done : List Datum
  pub same : form_at p (at_form n from done here.env) ≡ form_at p here
  pub ahead : IsNextPart p (at_form n from done here.env) n from next
