-- What nodes are made of.
use Rattle.std.specs.Prelude.{ℕ, List, [], ◌∷◌}
use Rattle.stab_code.specs.declared.head.Head.{Head}
use Rattle.stab_code.specs.declared.node_id.NodeId.{NodeId}

-- a node: what its form is, and the numbers of its parts from left to right
pub record NodeParts : Type 0 where
  pub head : Head
  pub parts : List NodeId

abbrev pub node_of : Head → List NodeId → NodeParts
node_of head parts = record { head = head; parts = parts }

-- heads, each with its parts
abbrev pub nodes_in : List Head → List (List NodeId) → List NodeParts
nodes_in (head ∷ heads) (parts ∷ lists) = node_of head parts ∷ nodes_in heads lists
nodes_in _ _ = []

-- the node of a number
abbrev pub id : ℕ → NodeId
id n = record { 0 = n }
