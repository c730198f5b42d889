-- Nodes, and what they do to threads and references.
use Rattle.std.specs.Prelude.{ℕ, Bool, true, false, cond, List, [], ◌∷◌, Option, Some, None, nat_eq}
use Rattle.std.specs.List.{list_any}
use Rattle.stab_base.specs.declared.numbers.ThreadId.{ThreadId}
use Rattle.stab_base.specs.declared.numbers.Seq.{Seq}
use Rattle.comm_graph.specs.declared.node.NodeFor.{NodeFor}
use Rattle.comm_graph.specs.declared.node.NodeFor.TheVariants.{Enter, Spawn, Comm, Get, Set, NewRef, Pin}

-- a node: the number of its step, and what it stands for
pub record Node : Type 0 where
  pub number : ℕ
  pub kind : NodeFor

-- the thread that a node names first
abbrev pub first_of : NodeFor → ThreadId
first_of (Enter t) = t
first_of (Spawn t u) = t
first_of (Comm s r) = s
first_of (Get t q) = t
first_of (Set t) = t
first_of (NewRef t) = t
first_of (Pin t) = t

-- the receiver, or the thread that is spawned
abbrev pub second_of : NodeFor → Option ThreadId
second_of (Spawn t u) = Some u
second_of (Comm s r) = Some r
second_of _ = None

-- the second thread, where it isn't the first one again
abbrev pub unless : ℕ → Option ThreadId → Option ThreadId
unless t None = None
unless t (Some u) = cond (nat_eq u.0 t) None (Some u)

abbrev pub other_of : NodeFor → Option ThreadId
other_of k = unless (first_of k).0 (second_of k)

-- the threads that act in a node: its thread, or the sender and the receiver
abbrev pub actors : NodeFor → List ℕ
actors (Comm s r) = s.0 ∷ r.0 ∷ []
actors k = (first_of k).0 ∷ []

-- the threads that a node touches: its actors, and the one that it spawns
abbrev pub touched : NodeFor → List ℕ
touched (Spawn t u) = t.0 ∷ u.0 ∷ []
touched k = actors k

-- the thread t acts in a node
abbrev pub acts : ℕ → NodeFor → Bool
acts t k = list_any (nat_eq t) (actors k)

-- a node touches the thread t
abbrev pub touches : ℕ → NodeFor → Bool
touches t k = list_any (nat_eq t) (touched k)

-- a node writes a reference: it sets or makes it
abbrev pub is_write : NodeFor → Bool
is_write (Set t) = true
is_write (NewRef t) = true
is_write _ = false

-- the number of the write that a node read
abbrev pub read_by : NodeFor → Option Seq
read_by (Get t q) = Some q
read_by _ = None

-- a node read what the step numbered q wrote
abbrev pub reads : ℕ → NodeFor → Bool
reads q (Get t p) = nat_eq q p.0
reads q _ = false
