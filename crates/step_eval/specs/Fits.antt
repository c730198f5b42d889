-- Which forms and frames fit a program.
use Rattle.std.specs.Prelude.{◌≡◌, ℕ, ◌<◌, ⊤, List, [], ◌∷◌, length, drop, Option, Some, None}
use Rattle.stab_base.specs.declared.numbers.Seq.{Seq}
use Rattle.stab_code.specs.declared.head.Head.{Head}
use Rattle.stab_code.specs.declared.head.Head.TheVariants.{Unit, Truth, Int, Text, Var, Block, If, Two, Call}
use Rattle.stab_code.specs.declared.head.Op.TheVariants.{Or, And}
use Rattle.stab_code.specs.declared.node_id.NodeId.{NodeId}
use Rattle.stab_code.specs.Program.{ProgramParts, trees_at}
use Rattle.stab_code.specs.Trees.{Tree, tree}
use Rattle.step_eval.specs.declared.site.Site.{Site}
use Rattle.step_eval.specs.declared.site.Site.TheVariants.{Form, Section}
use Rattle.step_eval.specs.FrameView.{FrameView}
use Rattle.step_eval.specs.Meaning.{head_left, node_at, strict_at}
use Rattle.step_eval.specs.Scoped.{IsScoped}

-- no literal and no variable
abbrev pub IsForm : Head → Type 0
IsForm Unit = ⊥
IsForm (Truth b) = ⊥
IsForm (Int n) = ⊥
IsForm (Text t) = ⊥
IsForm (Var x) = ⊥
IsForm h = ⊤

-- a form other than a call, all of whose parts have to be values
abbrev pub GivesValue : Head → Type 0
GivesValue Unit = ⊥
GivesValue (Truth b) = ⊥
GivesValue (Int n) = ⊥
GivesValue (Text t) = ⊥
GivesValue (Var x) = ⊥
GivesValue (Block slots) = ⊥
GivesValue If = ⊥
GivesValue (Two And) = ⊥
GivesValue (Two Or) = ⊥
GivesValue (Call f) = ⊥
GivesValue h = ⊤

-- of a block an item is left, and nothing else has lost a part
abbrev pub IsLeft : Head → ℕ → Type 0
IsLeft (Block slots) from = from < length slots
IsLeft h from = from ≡ 0

-- what is left of a node's form without so many of its first items
abbrev pub tree_left : ProgramParts → NodeId → ℕ → Tree
tree_left p n from = tree (head_left from (node_at p n).head) (trees_at p (drop from (node_at p n).parts))

-- a form of the program, for which there are so many values by slots
pub record FormFits (p : ProgramParts) (n : NodeId) (from size : ℕ) : Type 0 where
  pub there : n.0 < length p.nodes
  pub is_form : IsForm (node_at p n).head
  pub left : IsLeft (node_at p n).head from
  pub scoped : IsScoped size (tree_left p n from)

abbrev pub SiteFits : ProgramParts → Site → ℕ → Type 0
SiteFits p (Form n from) size = FormFits p n from size
SiteFits p (Section m outer) size = ⊤

-- a frame is a form of the program that waits for one of its parts that count
pub record FrameFits (p : ProgramParts) (f : FrameView) : Type 0 where
  pub site : SiteFits p f.site (length f.env)
  pub waits : length f.done < strict_at p f.site

-- the number of the innermost section outside, where it is this one inside
abbrev pub outside : Option Seq → Site → Option Seq
outside mark (Form n from) = mark
outside mark (Section m outer) = outer

abbrev pub IsMarkAt : Option Seq → Site → Type 0
IsMarkAt mark (Form n from) = ⊤
IsMarkAt mark (Section m outer) = mark ≡ Some m

-- the frames fit, the innermost first, and the mark is the number of the innermost section among them
abbrev pub FramesFit : ProgramParts → Option Seq → List FrameView → Type 0
FramesFit p mark [] = mark ≡ None
FramesFit p mark (f ∷ fs) = FrameFits p f × IsMarkAt mark f.site × FramesFit p (outside mark f.site) fs
