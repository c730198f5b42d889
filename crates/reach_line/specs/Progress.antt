-- How marks grow.
use Rattle.std.specs.Prelude.{◌≡◌, ℕ, ◌+◌, Bool, true, List, [], ◌∷◌, ◌++◌, length, nat_eq}
use Rattle.std.specs.List.{AllByRecursion, list_any}
use Rattle.comm_graph.specs.Node.{Node}
use Rattle.comm_graph.specs.Edge.{ends}
use Rattle.reach_line.specs.Reached.{has, Reached, IsOnce}
use Rattle.reach_line.specs.MarkList.{MarkList}

-- so many of the ends of a node's edges are marked, and what is more is among its ends
pub record IsSpread (ends done : List ℕ) (before after : MarkList) : Type 0 where
  pub lowest : after.lowest ≡ before.lowest
  pub beyond : after.beyond ≡ before.beyond
  pub more : List ℕ
  pub grown : after.nodes ≡ before.nodes ++ more
  pub among : AllByRecursion (λ q. has q ends ≡ true) more
  pub all : AllByRecursion (λ q. has q after.nodes ≡ true) done

-- some of the ends are done, others are left
pub record IsPart (ends left : List ℕ) (before after : MarkList) (start steps : ℕ) : Type 0 where
  pub done : List ℕ
  pub split : done ++ left ≡ ends
  pub spread : IsSpread ends done before after
  pub count : steps ≡ start + length done

-- a node has the number
abbrev pub named : ℕ → List Node → Bool
named q nodes = list_any (λ (n : Node). nat_eq q n.number) nodes

-- all ends of edges from some nodes are marked
abbrev pub AreClosed : List Node → List ℕ → List ℕ → Type 0
AreClosed nodes marks some = AllByRecursion (λ p. AllByRecursion (λ q. has q marks ≡ true) (ends nodes p)) some

-- what edges from some nodes cost
abbrev pub cost : List Node → List ℕ → ℕ
cost nodes [] = 0
cost nodes (p ∷ some) = length (ends nodes p) + 1 + cost nodes some
