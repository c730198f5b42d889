-- What functions and programs are made of, and the syntax trees of their nodes.
use Rattle.std.specs.Prelude.{ℕ, List, [], ◌∷◌, ◌++◌, length, map, slice_get, unwrap_or}
use Rattle.stab_base.specs.declared.numbers.FnId.{FnId}
use Rattle.stab_code.specs.declared.head.Head.TheVariants.{Unit}
use Rattle.stab_code.specs.declared.node_id.NodeId.{NodeId}
use Rattle.stab_code.specs.Nodes.{NodeParts}
use Rattle.stab_code.specs.Trees.{Tree, Trees, tree, none, more}
use Rattle.stab_code.specs.Written.{Written}

-- a function: the written types that it takes and gives, its number of slots, and the node of its body
pub record FunctionParts : Type 0 where
  pub takes : List Written
  pub gives : Written
  pub slots : ℕ
  pub body : NodeId

abbrev pub function_of : List Written → Written → ℕ → NodeId → FunctionParts
function_of takes gives slots body = record { takes = takes; gives = gives; slots = slots; body = body }

-- how many arguments the function takes
abbrev pub arity_of : FunctionParts → ℕ
arity_of f = length f.takes

-- a program: its functions, its nodes, the bytes of its texts, and the number of main
pub record ProgramParts : Type 0 where
  pub functions : List FunctionParts
  pub nodes : List NodeParts
  pub texts : List (List ℕ)
  pub main : FnId

abbrev pub program_of : List FunctionParts → List NodeParts → List (List ℕ) → FnId → ProgramParts
program_of functions nodes texts main = record { functions = functions; nodes = nodes; texts = texts; main = main }

-- the tree of a number among those so far; where there is none, a form without parts
abbrev pub tree_among : List Tree → NodeId → Tree
tree_among trees n = unwrap_or (slice_get trees n.0) (tree Unit none)

abbrev pub trees_among : List Tree → List NodeId → Trees
trees_among trees [] = none
trees_among trees (n ∷ ns) = more (tree_among trees n) (trees_among trees ns)

-- the trees so far, and those of further nodes, each with the trees of its parts
abbrev pub trees_after : List Tree → List NodeParts → List Tree
trees_after trees [] = trees
trees_after trees (node ∷ nodes) = trees_after (trees ++ tree node.head (trees_among trees node.parts) ∷ []) nodes

-- the tree of each node
abbrev pub trees_of : List NodeParts → List Tree
trees_of nodes = trees_after [] nodes

-- the tree of a node of a program, and those of several
abbrev pub tree_at : ProgramParts → NodeId → Tree
tree_at p n = tree_among (trees_of p.nodes) n

abbrev pub trees_at : ProgramParts → List NodeId → Trees
trees_at p ns = trees_among (trees_of p.nodes) ns

-- the body of a function of a program
abbrev pub body_of : ProgramParts → FunctionParts → Tree
body_of p f = tree_at p f.body

-- the nodes of the functions' bodies
abbrev pub bodies_of : ProgramParts → List NodeId
bodies_of p = map (λ f. f.body) p.functions
