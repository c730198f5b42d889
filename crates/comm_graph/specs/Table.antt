-- The entries in which nodes stand, and the lines through them.
use Rattle.std.specs.Prelude.{◌≡◌, ◌≢◌, ℕ, suc, ◌<◌, ◌≤◌, ◌+◌, Bool, true, false, not, cond, ◌&&◌, List, [], ◌∷◌, nat_eq, length, slice_index, Option, Some, None}
use Rattle.std.specs.Option.{option_map_or}
use Rattle.stab_base.specs.declared.numbers.Seq.{Seq}
use Rattle.comm_graph.specs.declared.table.Links.{Links}
use Rattle.comm_graph.specs.declared.table.Line.{Line}
use Rattle.comm_graph.specs.declared.table.Line.TheVariants.{Thread, Readers}
use Rattle.comm_graph.specs.declared.table.Entry.{Entry}
use Rattle.comm_graph.specs.declared.node.NodeFor.{NodeFor}
use Rattle.comm_graph.specs.Node.{Node, first_of, touches, reads, is_write}
use Rattle.comm_graph.specs.Line.{IsLine}

-- the neighbours of an entry in a line
abbrev pub links_of : Line → Entry → Links
links_of (Thread t) e = cond (nat_eq (first_of e.kind).0 t.0) e.first e.second
links_of (Readers q) e = e.reader

abbrev pub before_in : ℕ → Links → Links
before_in v l = record l { before = v }

abbrev pub after_in : ℕ → Links → Links
after_in v l = record l { after = v }

-- an entry with other neighbours in a line
abbrev pub relinked : (Links → Links) → Line → Entry → Entry
relinked f (Thread t) e = cond (nat_eq (first_of e.kind).0 t.0) (record e { first = f e.first }) (record e { second = f e.second })
relinked f (Readers q) e = record e { reader = f e.reader }

abbrev pub with_before : Line → ℕ → Entry → Entry
with_before line v = relinked (before_in v) line

abbrev pub with_after : Line → ℕ → Entry → Entry
with_after line v = relinked (after_in v) line

abbrev pub with_last_reader : ℕ → Entry → Entry
with_last_reader v e = record e { last_reader = v }

-- a node in no line
abbrev pub no_links : Links
no_links = record { before = 0; after = 0 }

abbrev pub unlinked : Seq → NodeFor → Entry
unlinked q k = record { number = q; kind = k; live = true; first = no_links; second = no_links; reader = no_links; last_reader = 0 }

abbrev pub struck : Entry → Entry
struck e = record e { live = false }

-- the entry at a place, where so many were dropped before
abbrev pub entry_at : List Entry → ℕ → ℕ → Option Entry
entry_at [] gone p = None
entry_at (e ∷ es) gone p = cond (nat_eq p (suc gone)) (Some e) (entry_at es (suc gone) p)

-- the entries with the one at a place changed
abbrev pub change : (Entry → Entry) → ℕ → ℕ → List Entry → List Entry
change f gone p [] = []
change f gone p (e ∷ es) = cond (nat_eq p (suc gone)) (f e ∷ es) (e ∷ change f (suc gone) p es)

-- the place is that of an entry
abbrev pub IsPlace : List Entry → ℕ → ℕ → Type 0
IsPlace es gone p = (gone < p) × (p ≤ gone + length es)

-- the numbers of entries rise
pub record IsSorted (es : List Entry) (gone : ℕ) : Type 0 where
  pub rise : (p r : ℕ) (e f : Entry) → entry_at es gone p ≡ Some e → entry_at es gone r ≡ Some f → p < r → e.number.0 < f.number.0

-- a node of this number stands at the place
pub record IsFound (es : List Entry) (gone q p : ℕ) : Type 0 where
  pub entry : Entry
  pub at : entry_at es gone p ≡ Some entry
  pub live : entry.live ≡ true
  pub number : entry.number.0 ≡ q

-- an entry stands in a line
abbrev pub stands : Line → Entry → Bool
stands (Thread t) e = e.live && touches t.0 e.kind
stands (Readers q) e = e.live && reads q.0 e.kind

-- what is read of the entry at a place
abbrev pub look : {X : Type 0} → (Entry → X) → X → List Entry → ℕ → ℕ → X
look f d es gone p = option_map_or f (entry_at es gone p) d

abbrev pub in_line : Line → List Entry → ℕ → ℕ → Bool
in_line line = look (stands line) false

abbrev pub before_of : Line → List Entry → ℕ → ℕ → ℕ
before_of line = look (λ e. (links_of line e).before) 0

abbrev pub after_of : Line → List Entry → ℕ → ℕ → ℕ
after_of line = look (λ e. (links_of line e).after) 0

-- a line of the entries
abbrev pub IsLineOf : List Entry → ℕ → Line → ℕ → Type 0
IsLineOf es gone line last = IsLine (in_line line es gone) (before_of line es gone) (after_of line es gone) gone last

-- a line but for the entry at the place p, where it is not a member yet or not any more
abbrev pub IsLineBut : List Entry → ℕ → Line → ℕ → ℕ → Type 0
IsLineBut es gone line last p = IsLine (λ k. in_line line es gone k && not (nat_eq k p)) (before_of line es gone) (after_of line es gone) gone last

-- the nodes of some entries
abbrev pub nodes_of : List Entry → List Node
nodes_of [] = []
nodes_of (e ∷ es) = cond e.live (record { number = e.number.0; kind = e.kind } ∷ nodes_of es) (nodes_of es)

-- the nodes behind a place
abbrev pub nodes_behind : List Entry → ℕ → ℕ → List Node
nodes_behind [] gone p = []
nodes_behind (e ∷ es) gone p = cond (nat_eq p (suc gone)) (nodes_of es) (nodes_behind es (suc gone) p)

-- number, kind and whether it is live
abbrev pub shape : Entry → Seq × NodeFor × Bool
shape e = (e.number, e.kind, e.live)

-- the same nodes, with other links
pub record Keeps (es fs : List Entry) (gone : ℕ) : Type 0 where
  pub count : length fs ≡ length es
  pub nodes : nodes_of fs ≡ nodes_of es
  pub shapes : (k : ℕ) → look (λ e. Some (shape e)) None fs gone k ≡ look (λ e. Some (shape e)) None es gone k

-- in a line, what members know of their neighbours is the same
abbrev pub Agrees : List Entry → List Entry → ℕ → Line → Type 0
Agrees es fs gone line = (k : ℕ) → in_line line es gone k ≡ true → (before_of line fs gone k ≡ before_of line es gone k) × (after_of line fs gone k ≡ after_of line es gone k)

-- the same last readers
abbrev pub SameReaders : List Entry → List Entry → ℕ → Type 0
SameReaders es fs gone = (k : ℕ) → look (λ e. e.last_reader) 0 fs gone k ≡ look (λ e. e.last_reader) 0 es gone k

-- other links in one line
pub record Beside (line : Line) (es fs : List Entry) (gone : ℕ) : Type 0 where
  pub keeps : Keeps es fs gone
  pub readers : SameReaders es fs gone
  pub others : (other : Line) → other ≢ line → Agrees es fs gone other

-- the line of a thread, and the readers of a write
abbrev pub thread : ℕ → Line
thread t = Thread (record { 0 = t })

abbrev pub readers : ℕ → Line
readers q = Readers (record { 0 = q })

-- the node of this kind at a place
pub record IsNodeAt (es : List Entry) (gone p : ℕ) (kind : NodeFor) : Type 0 where
  pub entry : Entry
  pub at : entry_at es gone p ≡ Some entry
  pub live : entry.live ≡ true
  pub kind_is : entry.kind ≡ kind

-- the last one of each thread's line, of those that have one
abbrev pub AreTails : List Entry → ℕ → List ℕ → Type 0
AreTails es gone tails = (t : ℕ) → t < length tails → IsLineOf es gone (thread t) (slice_index tails t)

abbrev pub AreTailsBut : List Entry → ℕ → List ℕ → ℕ → Type 0
AreTailsBut es gone tails p = (t : ℕ) → t < length tails → IsLineBut es gone (thread t) (slice_index tails t) p

-- a live write knows the last one of its readers
abbrev pub AreReaders : List Entry → ℕ → Type 0
AreReaders es gone = (w : ℕ) (e : Entry) → entry_at es gone w ≡ Some e → e.live ≡ true → is_write e.kind ≡ true → IsLineOf es gone (readers e.number.0) e.last_reader

abbrev pub AreReadersBut : List Entry → ℕ → ℕ → Type 0
AreReadersBut es gone p = (w : ℕ) (e : Entry) → entry_at es gone w ≡ Some e → e.live ≡ true → is_write e.kind ≡ true → IsLineBut es gone (readers e.number.0) e.last_reader p

-- other links in lines of threads
pub record BesideThreads (es fs : List Entry) (gone : ℕ) : Type 0 where
  pub keeps : Keeps es fs gone
  pub last_readers : SameReaders es fs gone
  pub reading : (q : ℕ) → Agrees es fs gone (readers q)

-- other links in lines of readers
pub record BesideReaders (es fs : List Entry) (gone : ℕ) : Type 0 where
  pub keeps : Keeps es fs gone
  pub acting : (t : ℕ) → Agrees es fs gone (thread t)

-- a write with this number stands at the place
pub record IsWriteAt (es : List Entry) (gone q w : ℕ) : Type 0 where
  pub entry : Entry
  pub at : entry_at es gone w ≡ Some entry
  pub live : entry.live ≡ true
  pub number : entry.number.0 ≡ q
  pub write : is_write entry.kind ≡ true

-- the entry at a place is live
pub record IsLive (es : List Entry) (gone p : ℕ) : Type 0 where
  pub entry : Entry
  pub at : entry_at es gone p ≡ Some entry
  pub live : entry.live ≡ true
