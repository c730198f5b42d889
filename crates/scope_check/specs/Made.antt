-- What the steps through a program's bodies come to: each says of every form at the place what the definition gives for it.
use Rattle.std.specs.Prelude.{◌≡◌, ℕ, ◌-◌, false, List, [], ◌∷◌, ◌++◌, length, reverse, slice_get, Option, Some, Result, Ok}
use Rattle.stab_code.specs.Layout.{nodes_of, nodes_of_all, own_nodes, size_of as tree_size, size_of_all}
use Rattle.stab_code.specs.Nodes.{NodeParts, nodes_in}
use Rattle.stab_code.specs.Program.{FunctionParts}
use Rattle.stab_code.specs.Trees.{Tree}
use Rattle.stab_parse.specs.declared.symbol.Span.{Span}
use Rattle.stab_parse.specs.declared.tree.FormNode.{FormNode}
use Rattle.stab_parse.specs.declared.tree.Function.{Function}
use Rattle.stab_parse.specs.declared.tree.Head.{Head}
use Rattle.stab_parse.specs.declared.tree.Head.TheVariants as head
use Rattle.stab_parse.specs.Forms.{Form, form, Parts}
use Rattle.stab_parse.specs.FormList.{nodes_of_program}
use Rattle.stab_parse.specs.Grammar.{Program}
use Rattle.scope_check.specs.declared.fault.ScopeFault.{ScopeFault}
use Rattle.scope_check.specs.declared.progress.Progress.{Progress}
use Rattle.scope_check.specs.Forms.{has_lets, items_of}
use Rattle.scope_check.specs.Placed.{size_of, size_of_parts}
use Rattle.scope_check.specs.Places.{IsAt, own_numbers, part_lists}
use Rattle.scope_check.specs.Progress.{IsFaultOf, met_of, seen_of, texts_of}
use Rattle.scope_check.specs.Scope.{Behind, Defined, Met, behind, form_scoped, function_defined, functions_scoped, in_order, part_met, parts_scoped}
use Rattle.scope_check.specs.Seen.{params_seen}

-- the form with that number is a block with lets, and these are the names of its items
abbrev pub IsLetBlock : List FormNode → ℕ → List (Option Span) → Type 0
IsLetBlock forms at names = (node : FormNode) × (slice_get forms at ≡ Some node) × (node.head ≡ head.LetBlock names)

-- the form with that number isn't a block with lets
abbrev pub IsOther : List FormNode → ℕ → Type 0
IsOther forms at = (node : FormNode) × (slice_get forms at ≡ Some node) × (has_lets node.head ≡ false)

-- the new nodes are the old ones and those of the form's tree, one for each form in it
abbrev pub Adds : List NodeParts → List NodeParts → Form → Tree → Type 0
Adds old new f t = (new ≡ old ++ nodes_of (length old) t) × (tree_size t ≡ size_of f)

-- the trees of some parts were made, the last one first
pub record AddsParts (old new : List NodeParts) (ps : Parts) (trees : List Tree) : Type 0 where
  pub nodes : new ≡ old ++ nodes_of_all (length old) (in_order trees)
  pub own : own_nodes (length old) (in_order trees) ≡ own_numbers (length old) ps
  pub size : size_of_all (in_order trees) ≡ size_of_parts ps

-- the nodes so far: each head that was made, with the parts of its form
abbrev pub nodes_now : List FormNode → Progress → List NodeParts
nodes_now forms p = nodes_in p.heads.items (part_lists 0 [] forms)

-- each head that was made has its list of parts
abbrev pub HaveParts : List FormNode → Progress → Type 0
HaveParts forms p = length (nodes_now forms p) ≡ length p.heads.items

module _ (bytes : List ℕ) (fs : List Function) (arity : ℕ) (forms : List FormNode) (at : ℕ) where
  -- the form's definition, in what was made so far
  abbrev pub scoped_now : Progress → Form → Result (Tree × Met) ScopeFault
  scoped_now old f = form_scoped bytes fs arity (seen_of old) (met_of old) f

  abbrev pub IsFormMade : Progress → Progress → Type 0
  IsFormMade old new =
      (f : Form) → IsAt forms (length (nodes_now forms old)) at f → (t : Tree) × (scoped_now old f ≡ Ok (t, met_of new)) × Adds (nodes_now forms old) (nodes_now forms new) f t × HaveParts forms new

  abbrev pub IsFormFault : Progress → ScopeFault → Type 0
  IsFormFault old fault = (f : Form) → IsAt forms (length (nodes_now forms old)) at f → IsFaultOf (scoped_now old f) fault

  -- one part more, behind some trees and with the slots of the items so far
  abbrev pub part_now : Option (Option Span) → Progress → List (Option ℕ) → List Tree → Form → Result Behind ScopeFault
  part_now item old slots trees f =
      part_met arity item (behind trees (seen_of old) (reverse slots) (met_of old)) (λ met. form_scoped bytes fs arity (seen_of old) met f)

  abbrev pub IsPartMade : Option (Option Span) → Progress → List (Option ℕ) → Progress → List (Option ℕ) → Type 0
  IsPartMade item old slots new more =
      (f : Form) (trees : List Tree) → IsAt forms (length (nodes_now forms old)) at f
      → (t : Tree) × (part_now item old slots trees f ≡ Ok (behind (t ∷ trees) (seen_of new) (reverse more) (met_of new))) × Adds (nodes_now forms old) (nodes_now forms new) f t

  abbrev pub IsPartFault : Option (Option Span) → Progress → List (Option ℕ) → ScopeFault → Type 0
  IsPartFault item old slots fault =
      (f : Form) (trees : List Tree) → IsAt forms (length (nodes_now forms old)) at f → IsFaultOf (part_now item old slots trees f) fault

  -- the parts of a form that stands at the place
  abbrev pub parts_now : Progress → Head → Parts → Result Behind ScopeFault
  parts_now old h ps = parts_scoped bytes fs arity (items_of h) (behind [] (seen_of old) [] (met_of old)) ps

  abbrev pub ArePartsMade : Progress → Progress → List (Option ℕ) → Type 0
  ArePartsMade old new slots =
      (place : ℕ) (h : Head) (ps : Parts) → IsAt forms (length (nodes_now forms old)) at (form place h ps)
      → (trees : List Tree) × (parts_now old h ps ≡ Ok (behind trees (seen_of new) (reverse slots) (met_of new))) × AddsParts (nodes_now forms old) (nodes_now forms new) ps trees

  abbrev pub IsPartsFault : Progress → ScopeFault → Type 0
  IsPartsFault old fault =
      (place : ℕ) (h : Head) (ps : Parts) → IsAt forms (length (nodes_now forms old)) at (form place h ps) → IsFaultOf (parts_now old h ps) fault

module _ (bytes : List ℕ) (fs : List Function) (forms : List FormNode) (f : Function) where
  -- a function's body, in what was made so far
  abbrev pub body_now : Progress → Form → Result (Tree × Met) ScopeFault
  body_now old b = form_scoped bytes fs (length f.params) (params_seen 0 f.params []) (record { lets = 0; texts = texts_of old }) b

  abbrev pub IsBody : Progress → Form → Type 0
  IsBody old b = IsAt forms (length (nodes_now forms old)) (f.forms_end - 1) b

  abbrev pub IsFunctionMade : Progress → Progress → FunctionParts → Type 0
  IsFunctionMade old new made =
      (b : Form) → IsBody old b → (t : Tree × Met) × (body_now old b ≡ Ok t) × Adds (nodes_now forms old) (nodes_now forms new) b t.0 × (t.1.texts ≡ texts_of new) × HaveParts forms new
      × ((d : Defined) → size_of_all (in_order d.trees) ≡ length (nodes_now forms old) → (function_defined d f t).functions ≡ d.functions ++ made ∷ [])

  abbrev pub IsFunctionFault : Progress → ScopeFault → Type 0
  IsFunctionFault old fault = (b : Form) → IsBody old b → IsFaultOf (body_now old b) fault

-- the functions of the program and their bodies are those of the definition
pub record AreFunctionsMade (bytes : List ℕ) (fs : List Function) (forms : List FormNode) (p : Program) (new : Progress) (made : List FunctionParts) : Type 0 where
  pub defined : Defined
  pub scoped : functions_scoped bytes fs p ≡ Ok defined
  pub functions : made ≡ defined.functions
  pub whole : HaveParts forms new
  pub nodes : nodes_now forms new ≡ nodes_of_all 0 (in_order defined.trees)
  pub texts : texts_of new ≡ defined.texts
  pub size : size_of_all (in_order defined.trees) ≡ length (nodes_of_program p)
