-- Trees as lists of nodes: each node directly after those of its parts, from left to right.
use Rattle.std.specs.Prelude.{ℕ, ◌+◌, List, [], ◌∷◌, ◌++◌}
use Rattle.stab_code.specs.declared.node_id.NodeId.{NodeId}
use Rattle.stab_code.specs.Nodes.{NodeParts, node_of, id}
use Rattle.stab_code.specs.Trees.{Tree, Trees, tree, none, more}

-- how many forms there are in a tree, with the tree itself
abbrev mutual
  pub size_of : Tree → ℕ
  size_of (tree head parts) = size_of_all parts + 1

  pub size_of_all : Trees → ℕ
  size_of_all none = 0
  size_of_all (more part parts) = size_of part + size_of_all parts

-- the number of a tree's own node, where the nodes of its parts, if there are any, begin with number n
abbrev pub own_node : ℕ → Tree → NodeId
own_node n (tree head parts) = id (n + size_of_all parts)

-- the same of trees that are laid out one after another
abbrev pub own_nodes : ℕ → Trees → List NodeId
own_nodes n none = []
own_nodes n (more part parts) = own_node n part ∷ own_nodes (n + size_of part) parts

-- the nodes of a tree, of which the first has number n
abbrev mutual
  pub nodes_of : ℕ → Tree → List NodeParts
  nodes_of n (tree head parts) = nodes_of_all n parts ++ node_of head (own_nodes n parts) ∷ []

  pub nodes_of_all : ℕ → Trees → List NodeParts
  nodes_of_all n none = []
  nodes_of_all n (more part parts) = nodes_of n part ++ nodes_of_all (n + size_of part) parts
