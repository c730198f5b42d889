-- Going through a list of nodes from the front, so that the parts of a node come before it.
use Rattle.std.specs.Prelude.{List, [], ◌∷◌, ◌++◌, map, slice_get, unwrap_or}
use Rattle.stab_code.specs.declared.head.Head.{Head}
use Rattle.stab_code.specs.declared.head.Head.TheVariants.{Unit}
use Rattle.stab_code.specs.declared.node_id.NodeId.{NodeId}
use Rattle.stab_code.specs.Nodes.{NodeParts}

module _ {A : Type 0} (value : Head → List A → A) where
  -- the value of a number among those so far; where there is none, that of a form without parts
  abbrev pub value_among : List A → NodeId → A
  value_among values n = unwrap_or (slice_get values n.0) (value Unit [])

  -- the values so far, and those of further nodes, each from its head and the values of its parts
  abbrev pub values_after : List A → List NodeParts → List A
  values_after values [] = values
  values_after values (node ∷ nodes) = values_after (values ++ value node.head (map (value_among values) node.parts) ∷ []) nodes

  -- a value for each node
  abbrev pub values_of : List NodeParts → List A
  values_of nodes = values_after [] nodes
