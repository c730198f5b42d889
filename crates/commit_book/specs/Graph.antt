-- The nodes of the graph, from which its edges follow.
use Rattle.std.specs.Prelude.{◌≡◌, ℕ, Bool, true, false, cond, nat_lt, List, [], ◌∷◌, ◌++◌, filter}
use Rattle.stab_journal.specs.declared.event.Label.{Label}
use Rattle.stab_journal.specs.declared.event.Label.TheVariants.{Spawn, Comm, NewRef, Get, Set, Enter, Pin}
use Rattle.stab_journal.specs.declared.event.Numbered.{Numbered}
use Rattle.stab_journal.specs.Floor.{floor}
use Rattle.stab_journal.specs.Label.{written}
use Rattle.stab_journal.specs.Names.{is_at}
use Rattle.comm_graph.specs.declared.node.NodeFor.{NodeFor}
use Rattle.comm_graph.specs.declared.node.NodeFor.TheVariants as node
use Rattle.comm_graph.specs.Node.{Node}

-- whether a node is a pin's
abbrev pub is_pinned : NodeFor → Bool
is_pinned (node.Pin t) = true
is_pinned _ = false

abbrev pub one_node : ℕ → NodeFor → List Node
one_node q k = record { number = q; kind = k } ∷ []

-- the node of the step numbered q, if it has one, where w gives the number of each reference's last write
abbrev pub node_of : (ℕ → ℕ) → ℕ → Label → List Node
node_of w q (Enter t) = one_node q (node.Enter t)
node_of w q (Spawn t u) = one_node q (node.Spawn t u)
node_of w q (Comm s r c) = one_node q (node.Comm s r)
node_of w q (Get t r) = one_node q (node.Get t (record { 0 = w r.0 }))
node_of w q (Set t r) = one_node q (node.Set t)
node_of w q (NewRef t r) = one_node q (node.NewRef t)
node_of w q (Pin t) = one_node q (node.Pin t)
node_of w q _ = []

-- the number of each reference's last write after the step numbered q
abbrev pub wrote_by : ℕ → Label → (ℕ → ℕ) → ℕ → ℕ
wrote_by q l w r = cond (is_at (written l) r) q (w r)

abbrev pub nodes_from : (ℕ → ℕ) → List Numbered → List Node
nodes_from w [] = []
nodes_from w (n ∷ ns) = node_of w n.seq.0 n.label ++ nodes_from (wrote_by n.seq.0 n.label w) ns

-- the nodes of the steps above f
abbrev pub nodes_above : ℕ → List Numbered → List Node
nodes_above f run = filter (λ (k : Node). nat_lt f k.number) (nodes_from (λ _. 0) run)

-- the nodes are those of the run's steps above its floor
abbrev pub AreNodesOf : List Node → List Numbered → Type 0
AreNodesOf nodes run = nodes ≡ nodes_above (floor run) run
