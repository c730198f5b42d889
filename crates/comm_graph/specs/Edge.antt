-- The edges of some nodes.
use Rattle.std.specs.Prelude.{◌≡◌, ℕ, ◌<◌, true, cond, List, [], ◌∷◌, ◌++◌, nat_eq, filter, map, reverse, Option, Some, None, refl}
use Rattle.std.specs.List.{AllByRecursion, flat_map}
use Rattle.std.specs.Coded.{Coded, code_by, coded×, coded_list, coded_ℕ}
use Rattle.comm_graph.specs.declared.node.NodeFor.{NodeFor}
use Rattle.comm_graph.specs.Node.{Node, acts, touched, is_write, reads}

-- the next node in which the thread t acts
abbrev pub next_of : ℕ → List Node → List ℕ
next_of t [] = []
next_of t (n ∷ later) = cond (acts t n.kind) (n.number ∷ []) (next_of t later)

-- the nodes that read what the step numbered q wrote
abbrev pub readers_of : ℕ → List Node → List ℕ
readers_of q nodes = map (λ (n : Node). n.number) (filter (λ (n : Node). reads q n.kind) nodes)

-- where the edges of a node for its threads lead: to the next node of each that it touches
abbrev pub thread_ends : NodeFor → List Node → List ℕ
thread_ends kind later = flat_map (λ t. next_of t later) (touched kind)

-- where the edges of a write lead: to each node that read it, the last one first
abbrev pub read_ends : Node → List Node → List ℕ
read_ends n nodes = cond (is_write n.kind) (reverse (readers_of n.number nodes)) []

-- the node numbered q with those after it
abbrev pub from_number : ℕ → List Node → List Node
from_number q [] = []
from_number q (n ∷ later) = cond (nat_eq q n.number) (n ∷ later) (from_number q later)

-- where the edges of the first of some nodes lead, with all nodes beside
abbrev pub ends_at : List Node → List Node → List ℕ
ends_at [] nodes = []
ends_at (n ∷ later) nodes = thread_ends n.kind later ++ read_ends n nodes

-- where the edges of the node numbered q lead, once for each reason
abbrev pub ends : List Node → ℕ → List ℕ
ends nodes q = ends_at (from_number q nodes) nodes

-- the kind of the node numbered q
abbrev pub kind_at : List Node → Option NodeFor
kind_at [] = None
kind_at (n ∷ later) = Some n.kind

abbrev pub kind_of : List Node → ℕ → Option NodeFor
kind_of nodes q = kind_at (from_number q nodes)

-- the number that a node carries is below its own
abbrev pub IsRead : Node → Type 0
IsRead n = (q : ℕ) → reads q n.kind ≡ true → q < n.number

-- numbers rise, and what is read was written before
abbrev pub AreNodes : List Node → Type 0
AreNodes [] = Unit {0}
AreNodes (n ∷ later) = AllByRecursion (λ (m : Node). n.number < m.number) later × IsRead n × AreNodes later

-- a graph as callers see it: its nodes in rising order of number, and for how many more there is room
pub record NodeList : Type 0 where
  pub nodes : List Node
  pub spare : ℕ

-- a node and a graph are stored as the tuples of their parts
abbrev pub node_code : Coded NodeFor → Coded Node
node_code kinds = code_by (ℕ × NodeFor) (coded× coded_ℕ kinds) (λ n. (n.number, n.kind)) (λ p. record { number = p.0; kind = p.1 }) (λ _. refl)

abbrev pub node_list_code : Coded NodeFor → Coded NodeList
node_list_code kinds = code_by (List Node × ℕ) (coded× (coded_list (node_code kinds)) coded_ℕ) (λ g. (g.nodes, g.spare)) (λ p. record { nodes = p.0; spare = p.1 }) (λ _. refl)
