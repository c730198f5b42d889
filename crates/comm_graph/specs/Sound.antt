-- What holds of the parts of a graph, and what callers see.
use Rattle.std.specs.Prelude.{◌≡◌, ℕ, suc, ◌+◌, ◌-◌, ◌^◌, ◌<◌, ◌≤◌, Bool, true, false, List, ◌∷◌, ◌++◌, length, slice_index, ◌⊎◌, Some, min}
use Rattle.std.specs.VecDeque.{deque_len, deque_capacity}
use Rattle.comm_graph.specs.declared.table.Entry.{Entry}
use Rattle.comm_graph.specs.declared.table.Table.{Table}
use Rattle.comm_graph.specs.Node.{reads}
use Rattle.comm_graph.specs.Edge.{AreNodes}
use Rattle.comm_graph.specs.Table.{entry_at, nodes_of, thread, in_line, IsSorted, AreTails, AreReaders}

-- the last entry is live
abbrev pub IsClosed : List Entry → ℕ → Type 0
IsClosed es gone = (e : Entry) → entry_at es gone (gone + length es) ≡ Some e → e.live ≡ true

-- the last entry is struck
pub record IsEndStruck (es : List Entry) (gone : ℕ) : Type 0 where
  pub last : Entry
  pub at : entry_at es gone (gone + length es) ≡ Some last
  pub dead : last.live ≡ false

-- the number of the first entry is q or more
abbrev pub IsAtLeast : List Entry → ℕ → ℕ → Type 0
IsAtLeast es gone q = (e : Entry) → entry_at es gone (suc gone) ≡ Some e → q ≤ e.number.0

-- the first entry, with a number below q, was taken away
pub record IsFirstBelow (es : List Entry) (gone : ℕ) (fs : List Entry) (gone' q : ℕ) (live : Bool) : Type 0 where
  pub first : Entry
  pub split : es ≡ first ∷ fs
  pub moved : gone' ≡ suc gone
  pub below : first.number.0 < q
  pub live_is : live ≡ first.live

-- the nodes are in order, the last entry is live, all are in their lines, and no thread is above the greatest
pub record IsSound (es : List Entry) (gone : ℕ) (tails : List ℕ) (total greatest : ℕ) : Type 0 where
  pub nodes : AreNodes (nodes_of es)
  pub sorted : IsSorted es gone
  pub closed : IsClosed es gone
  pub small : gone + length es < 2 ^ 32
  pub count : total ≡ length (nodes_of es)
  pub acting : AreTails es gone tails
  pub reading : AreReaders es gone
  pub past : (p m : ℕ) (e : Entry) → entry_at es gone p ≡ Some e → reads m e.kind ≡ true → m < e.number.0
  pub under : (p t : ℕ) → in_line (thread t) es gone p ≡ true → t ≤ greatest

-- how many more nodes can be added without memory
abbrev pub spare_of : Table → ℕ
spare_of t = min (deque_capacity t.entries - deque_len t.entries) (2 ^ 32 - 1 - (t.gone + length t.entries.items))

-- struck entries left the end
pub record IsTrimmed (es fs : List Entry) (gone : ℕ) : Type 0 where
  pub nodes : nodes_of fs ≡ nodes_of es
  pub count : length fs ≤ length es
  pub kept : (k : ℕ) (e : Entry) → entry_at fs gone k ≡ Some e → entry_at es gone k ≡ Some e
  pub live : (k : ℕ) (e : Entry) → entry_at es gone k ≡ Some e → e.live ≡ true → entry_at fs gone k ≡ Some e

-- entries with numbers below q left the front, and so many were live
pub record IsDropped (es : List Entry) (gone : ℕ) (fs : List Entry) (gone' q total : ℕ) : Type 0 where
  pub dropped : List Entry
  pub split : es ≡ dropped ++ fs
  pub moved : gone' ≡ gone + length dropped
  pub below : (k : ℕ) (e : Entry) → entry_at dropped gone k ≡ Some e → e.number.0 < q
  pub count : total ≡ length (nodes_of dropped)

-- more threads have lines, with nobody in them: they are above the greatest, or there is no node
pub record IsGrown (tails more : List ℕ) (greatest total : ℕ) : Type 0 where
  pub longer : length tails ≤ length more
  pub same : (t : ℕ) → t < length tails → slice_index more t ≡ slice_index tails t
  pub fresh : (t : ℕ) → length tails ≤ t → t < length more → (slice_index more t ≡ 0) × ((greatest < length tails) ⊎ (total ≡ 0))
