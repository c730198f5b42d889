-- What edges reach.
use Rattle.std.specs.Prelude.{◌≡◌, ℕ, Bool, true, false, List, [], ◌∷◌, nat_eq}
use Rattle.std.specs.List.{AllByRecursion, list_any}
use Rattle.comm_graph.specs.Node.{Node}
use Rattle.comm_graph.specs.Edge.{ends}

-- a number is among some
abbrev pub has : ℕ → List ℕ → Bool
has q numbers = list_any (nat_eq q) numbers

-- edges lead from the node numbered m to the one numbered q, over any number of nodes
pub data Reached (nodes : List Node) (m : ℕ) : ℕ → Type 0 where
  itself : Reached nodes m m
  edge : (p q : ℕ) → Reached nodes m p → has q (ends nodes p) ≡ true → Reached nodes m q

-- no number stands twice
abbrev pub IsOnce : List ℕ → Type 0
IsOnce [] = Unit {0}
IsOnce (q ∷ numbers) = (has q numbers ≡ false) × IsOnce numbers

-- the marks are what is reached from m, each once
pub record AreReached (nodes : List Node) (m : ℕ) (marks : List ℕ) : Type 0 where
  pub only : AllByRecursion (Reached nodes m) marks
  pub all : (q : ℕ) → Reached nodes m q → has q marks ≡ true
  pub once : IsOnce marks
