-- The lines of threads among the marked nodes of a graph.
use Rattle.std.specs.Prelude.{◌≡◌, ℕ, ◌<◌, ◌≤◌, Bool, true, false, nat_eq, List, Option, Some, None, IsSome}
use Rattle.comm_graph.specs.declared.node.NodeFor.{NodeFor}
use Rattle.comm_graph.specs.declared.node.NodeFor.TheVariants.{Spawn}
use Rattle.comm_graph.specs.Node.{Node, acts, touches}
use Rattle.comm_graph.specs.Edge.{kind_of}
use Rattle.reach_line.specs.Reached.{has}
use Rattle.restore.specs.declared.line.Line.{Line}
use Rattle.restore.specs.declared.line.Line.TheVariants.{From, Gone}

-- a node starts the thread t
abbrev pub starts : ℕ → NodeFor → Bool
starts t (Spawn s u) = nat_eq t u.0
starts t _ = false

-- the node numbered q is marked and passes the test
pub record IsMarkedAs (nodes : List Node) (marks : List ℕ) (p : NodeFor → Bool) (q : ℕ) : Type 0 where
  pub kind : NodeFor
  pub marked : has q marks ≡ true
  pub there : kind_of nodes q ≡ Some kind
  pub passes : p kind ≡ true

-- the line of the thread t: none where no marked node touches it; gone where one starts it; and else from the first in which it acts
abbrev pub IsLineOf : List Node → List ℕ → ℕ → Option Line → Type 0
IsLineOf nodes marks t None = (q : ℕ) → IsMarkedAs nodes marks (touches t) q → ⊥
IsLineOf nodes marks t (Some Gone) = (q : ℕ) × IsMarkedAs nodes marks (starts t) q
IsLineOf nodes marks t (Some (From first)) = ((q : ℕ) → IsMarkedAs nodes marks (starts t) q → ⊥) × IsMarkedAs nodes marks (acts t) first.0 × ((q : ℕ) → IsMarkedAs nodes marks (acts t) q → first.0 ≤ q)

-- each marked node is in the graph
abbrev pub AreThere : List Node → List ℕ → Type 0
AreThere nodes marks = (q : ℕ) → has q marks ≡ true → IsSome (kind_of nodes q)

-- each thread that a marked node touches has a number below `spare`
abbrev pub HasSpare : ℕ → List Node → List ℕ → Type 0
HasSpare spare nodes marks = (q t : ℕ) → IsMarkedAs nodes marks (touches t) q → t < spare
