-- What is left of the edges of a node while they are gone through.
use Rattle.std.specs.Prelude.{◌≡◌, ℕ, true, cond, List, [], ◌∷◌, ◌++◌, nat_eq, drop, reverse, Option, Some, None, IsSome}
use Rattle.std.specs.Option.{option_map, option_to_list, IfNone}
use Rattle.std.specs.List.{flat_map}
use Rattle.stab_base.specs.declared.numbers.Seq.{Seq}
use Rattle.stab_base.specs.declared.numbers.ThreadId.{ThreadId}
use Rattle.comm_graph.specs.declared.edges.Left.{Left}
use Rattle.comm_graph.specs.declared.edges.Left.TheVariants.{First, Second, Reads, Before}
use Rattle.comm_graph.specs.declared.edges.Edges.{Edges}
use Rattle.comm_graph.specs.declared.node.NodeFor.{NodeFor}
use Rattle.comm_graph.specs.declared.table.Entry.{Entry}
use Rattle.comm_graph.specs.Line.{IsBefore}
use Rattle.comm_graph.specs.Table.{in_line, readers}
use Rattle.comm_graph.specs.Sound.{IsSound}
use Rattle.comm_graph.specs.Walk.{nodes_before}
use Rattle.comm_graph.specs.Node.{Node, touched, is_write, reads}
use Rattle.comm_graph.specs.Edge.{next_of, readers_of, read_ends, from_number, kind_of, ends}

-- the nodes before the one numbered q
abbrev pub until : ℕ → List Node → List Node
until q [] = []
until q (n ∷ later) = cond (nat_eq q n.number) [] (n ∷ until q later)

-- the edges of the first of some nodes for its second thread
abbrev pub second_at : List Node → List ℕ
second_at [] = []
second_at (n ∷ later) = flat_map (λ t. next_of t later) (drop 1 (touched n.kind))

-- where the edge of a node for its second thread leads
abbrev pub second_ends : Option ThreadId → List Node → List ℕ
second_ends None later = []
second_ends (Some t) later = next_of t.0 later

-- its edges to its readers
abbrev pub reads_at : List Node → List Node → List ℕ
reads_at [] nodes = []
reads_at (n ∷ later) nodes = read_ends n nodes

-- where the edges that are left of the node numbered q lead
abbrev pub left_of : List Node → ℕ → Left → List ℕ
left_of nodes q First = ends nodes q
left_of nodes q Second = second_at (from_number q nodes) ++ reads_at (from_number q nodes) nodes
left_of nodes q Reads = reads_at (from_number q nodes) nodes
left_of nodes q (Before r) = reverse (readers_of q (until r.0 nodes))

-- the node numbered q writes
abbrev pub IsWriter : List Node → ℕ → Type 0
IsWriter nodes q = (k : NodeFor) × (kind_of nodes q ≡ Some k) × (is_write k ≡ true)

-- the node numbered r read what the node numbered q wrote
abbrev pub IsReader : List Node → ℕ → ℕ → Type 0
IsReader nodes q r = (k : NodeFor) × (kind_of nodes r ≡ Some k) × (reads q k ≡ true)

-- a reader behind which the edges go on
abbrev pub IsLeft : List Node → ℕ → Left → Type 0
IsLeft nodes q (Before r) = IsWriter nodes q × IsReader nodes q r.0
IsLeft nodes q _ = Unit {0}

-- the edges are those of a node that is there
pub record AreEdges (nodes : List Node) (edges : Edges) : Type 0 where
  pub there : IsSome (kind_of nodes edges.node.0)
  pub left : IsLeft nodes edges.node.0 edges.left

-- the numbers that an answer has
abbrev pub number_of : Option Seq → Option ℕ
number_of o = option_map (λ (q : Seq). q.0) o

-- one edge was gone through, where one was left
pub record IsTurn (nodes : List Node) (q : ℕ) (left : List ℕ) (result : Option Seq) (edges : Edges) : Type 0 where
  pub end : left ≡ option_to_list (number_of result) ++ left_of nodes q edges.left
  pub none : IfNone result (left ≡ [])
  pub same : edges.node.0 ≡ q
  pub there : IsLeft nodes q edges.left

-- the lines of a table are in order
abbrev pub IsReady : List Entry → ℕ → List ℕ → Type 0
IsReady es gone tails = (total : ℕ) × (greatest : ℕ) × IsSound es gone tails total greatest

-- a place is that of the last reader of q before k, or of none
abbrev pub IsLastReader : List Entry → ℕ → ℕ → ℕ → ℕ → Type 0
IsLastReader es gone q k v = IsBefore (in_line (readers q) es gone) gone k v

-- the readers of q before the place k are left
pub record AreReadersLeft (es : List Entry) (gone q v : ℕ) (left : List ℕ) : Type 0 where
  pub bound : ℕ
  pub last : IsLastReader es gone q bound v
  pub left_is : left ≡ reverse (readers_of q (nodes_before es gone bound))
