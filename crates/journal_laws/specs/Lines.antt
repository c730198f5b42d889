-- The graph of nodes, and the lines of threads.
use Rattle.std.specs.Prelude.{◌≡◌, ℕ, Bool, true, false, ◌&&◌, ◌||◌, List, [], ◌∷◌, ◌++◌}
use Rattle.stab_journal.specs.declared.event.Label.{Label}
use Rattle.stab_journal.specs.declared.event.Label.TheVariants.{Spawn, Comm, NewRef, Get, Set, Enter, Pin}
use Rattle.stab_journal.specs.declared.event.Numbered.{Numbered}
use Rattle.stab_journal.specs.Label.{actors, touched}
use Rattle.stab_journal.specs.Names.{read, has}
use Rattle.stab_journal.specs.Dependence.{writes_what}

abbrev pub is_node : Label → Bool
is_node (Enter t) = true
is_node (Spawn t u) = true
is_node (Comm s r c) = true
is_node (Get t r) = true
is_node (Set t r) = true
is_node (NewRef t r) = true
is_node (Pin t) = true
is_node _ = false

-- a node among the steps acts for the thread
abbrev pub has_node : ℕ → List Numbered → Bool
has_node t [] = false
has_node t (n ∷ ns) = (is_node n.label && has (actors n.label) t) || has_node t ns

-- f is the next node of a thread that e touches, or a Get that reads what e wrote
pub data Leads (e : Label) (between : List Numbered) (f : Label) : Type 0 where
  by_thread : (t : ℕ) → has (touched e) t ≡ true → has (actors f) t ≡ true → has_node t between ≡ false → Leads e between f
  by_write : writes_what e between (read f) ≡ true → Leads e between f

pub record IsEdge (run : List Numbered) (e f : Numbered) : Type 0 where
  pub before : List Numbered
  pub between : List Numbered
  pub after : List Numbered
  pub is : run ≡ before ++ e ∷ (between ++ f ∷ after)
  pub from : is_node e.label ≡ true
  pub to : is_node f.label ≡ true
  pub how : Leads e.label between f.label

-- edges lead from the node numbered m
pub data Marked (run : List Numbered) (m : ℕ) : Numbered → Type 0 where
  itself : (before : List Numbered) (n : Numbered) (after : List Numbered) → run ≡ before ++ n ∷ after
      → m ≡ n.seq.0 → is_node n.label ≡ true → Marked run m n
  edge : (e f : Numbered) → Marked run m e → IsEdge run e f → Marked run m f

-- e is f, or stands before it
pub data UpTo (run : List Numbered) (e : Numbered) : Numbered → Type 0 where
  same : (before after : List Numbered) → run ≡ before ++ e ∷ after → UpTo run e e
  earlier : (before between after : List Numbered) (f : Numbered) → run ≡ before ++ e ∷ (between ++ f ∷ after) → UpTo run e f

-- a marked node that touches the thread stands at f or before it: its line isn't after f
pub record HasLine (run : List Numbered) (m t : ℕ) (f : Numbered) : Type 0 where
  pub node : Numbered
  pub marked : Marked run m node
  pub touches : has (touched node.label) t ≡ true
  pub place : UpTo run node f

-- a thread that acts in f has its line at f or before
pub record IsFromLine (run : List Numbered) (m : ℕ) (f : Numbered) : Type 0 where
  pub thread : ℕ
  pub acts : has (actors f.label) thread ≡ true
  pub line : HasLine run m thread f

-- a step by which a thread takes something from another one
abbrev pub is_meeting : Label → Bool
is_meeting (Comm s r c) = true
is_meeting (Get t r) = true
is_meeting _ = false

-- one of the steps touches the thread
abbrev pub is_touched : ℕ → List Numbered → Bool
is_touched t [] = false
is_touched t (n ∷ ns) = has (touched n.label) t || is_touched t ns
