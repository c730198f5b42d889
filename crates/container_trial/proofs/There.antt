-- The marks are nodes of the graph, and the threads that they touch have small numbers.
use Rattle.std.proofs.Common.{◌≡◌, inl, inr, ℕ, ◌+◌, ◌<◌, ◌≤◌, true, List, [], ◌∷◌, ◌++◌, Some, IsSome, nat_eq, cond, subst, sym, ap, ◌∙◌, arith}
use Rattle.std.specs.List.{All, AllByRecursion}
use Rattle.std.proofs.lemmas.Bool.{cases_Bool}
use Rattle.std.proofs.lemmas.List.Elements.{recursion_from_All, All-push, All-weaker}
use Rattle.comm_graph.specs.declared.node.NodeFor.{NodeFor}
use Rattle.comm_graph.specs.Node.{Node, touches}
use Rattle.comm_graph.specs.Edge.{kind_at, from_number, kind_of}
use Rattle.reach_line.specs.Reached.{Reached, AreReached}
use Rattle.reach_line.specs.Reached.Reached.{itself, edge}
use Rattle.reach_line.specs.Progress.{named}
use Rattle.reach_line.proofs.Closing.{ends_named, kind_named, named_kind, all_has, all_map}
use Rattle.restore.specs.Line.{AreThere}

reached_named : (nodes : List Node) (m q : ℕ) → named m nodes ≡ true → Reached nodes m q → named q nodes ≡ true
reached_named nodes m q first (itself) = first
reached_named nodes m q first (edge p _ r h) = ends_named q p nodes h

pub marks_there : (nodes : List Node) (m : ℕ) (marks : List ℕ) → IsSome (kind_of nodes m) → AreReached nodes m marks → AreThere nodes marks
marks_there nodes m marks there reach q marked =
    named_kind q nodes (all_has (λ p. named p nodes ≡ true) q marks (all_map (Reached nodes m) (λ p. named p nodes ≡ true) marks (λ p r. reached_named nodes m p (kind_named m nodes there) r) reach.only) marked)

some_same : (j k : NodeFor) → Some j ≡ Some k → j ≡ k
some_same j k is = cc

-- what holds of the kind of each node
kind_holds : (P : NodeFor → Type 0) (nodes : List Node) (q : ℕ) (k : NodeFor) → AllByRecursion (λ (n : Node). P n.kind) nodes → kind_of nodes q ≡ Some k → P k
kind_holds P [] q k all is = absurd (cc)
kind_holds P (n ∷ nodes) q k all is = elim (cases_Bool (nat_eq q n.number)) [
  | inl y ↦ subst P (some_same n.kind k (sym (ap (λ b. kind_at (cond b (n ∷ nodes) (from_number q nodes))) y) ∙ is)) all.0
  | inr z ↦ kind_holds P nodes q k all.1 (sym (ap (λ b. kind_at (cond b (n ∷ nodes) (from_number q nodes))) z) ∙ is)
]

pub few_threads : (nodes : List Node) (q t : ℕ) (k : NodeFor) → All (λ (n : Node). (u : ℕ) → touches u n.kind ≡ true → u ≤ 1000) nodes → kind_of nodes q ≡ Some k → touches t k ≡ true → t ≤ 1000
few_threads nodes q t k all is touches_it =
    kind_holds (λ j. (u : ℕ) → touches u j ≡ true → u ≤ 1000) nodes q k (recursion_from_All (λ (n : Node). (u : ℕ) → touches u n.kind ≡ true → u ≤ 1000) nodes all) is t touches_it

-- the nodes with one more are below the number after its own
pub below_next : (nodes : List Node) (last : Node) (next : ℕ) → next ≤ last.number → All (λ (n : Node). n.number < next) nodes → All (λ (n : Node). n.number < last.number + 1) (nodes ++ last ∷ [])
below_next nodes last next low all =
    All-push (λ (n : Node). n.number < last.number + 1) nodes last
    (All-weaker (λ (n : Node). n.number < next) (λ (n : Node). n.number < last.number + 1) (λ n under. omega arith) nodes all)
    (omega arith)
