-- Where forms stand in the list of a program's forms, and their parts.
use Rattle.std.specs.Prelude.{◌≡◌, ℕ, ◌+◌, ◌-◌, List, [], ◌∷◌, ◌++◌, length, take, drop}
use Rattle.stab_code.specs.declared.node_id.NodeId.{NodeId}
use Rattle.stab_code.specs.Nodes.{id}
use Rattle.stab_parse.specs.declared.tree.FormNode.{FormNode}
use Rattle.stab_parse.specs.Forms.{Form, form, Parts, no_parts, next_part}
use Rattle.stab_parse.specs.FormList.{nodes_of}
use Rattle.scope_check.specs.Placed.{size_of, size_of_parts}

-- the form and those in it stand in the list from the first number to the second, which is its own
pub record IsAt (forms : List FormNode) (first own : ℕ) (f : Form) : Type 0 where
  pub before : List FormNode
  pub after : List FormNode
  pub forms_are : forms ≡ before ++ (nodes_of f ++ after)
  pub first_is : length before ≡ first
  pub own_is : own + 1 ≡ first + size_of f

-- the numbers of a form's parts, where the first form in them has number n
abbrev pub own_number : ℕ → Form → NodeId
own_number n (form at h ps) = id (n + size_of_parts ps)

abbrev pub own_numbers : ℕ → Parts → List NodeId
own_numbers n no_parts = []
own_numbers n (next_part ps f) = own_numbers n ps ++ own_number (n + size_of_parts ps) f ∷ []

-- The parts of each form of a list, of which the first has number n: the last of those before it that are parts of none so far.
abbrev pub part_lists : ℕ → List NodeId → List FormNode → List (List NodeId)
part_lists n whole [] = []
part_lists n whole (f ∷ forms) =
    drop (length whole - f.parts) whole ∷ part_lists (n + 1) (take (length whole - f.parts) whole ++ id n ∷ []) forms
