-- Marks as callers see them, and how they are kept.
use Rattle.std.specs.Prelude.{◌≡◌, ℕ, ◌+◌, ◌<◌, ◌≤◌, Bool, true, false, List, ◌++◌, [], ◌∷◌, length, map, cond, refl}
use Rattle.std.specs.List.{AllByRecursion, All, slice_index_or, count_by}
use Rattle.std.specs.Coded.{Coded, code_by, coded×, coded_list, coded_ℕ}
use Rattle.std.specs.Vec.{vec_capacity}
use Rattle.stab_base.specs.declared.numbers.Seq.{Seq}
use Rattle.reach_line.specs.declared.marks.Marks.TheInside.{Inside}
use Rattle.comm_graph.specs.Node.{Node}
use Rattle.reach_line.specs.Reached.{has, IsOnce}

-- the marked numbers, and the numbers from `lowest` on and below `beyond` for which there is room
pub record MarkList : Type 0 where
  pub nodes : List ℕ
  pub lowest : ℕ
  pub beyond : ℕ

abbrev pub mark_list_code : Coded MarkList
mark_list_code = code_by (List ℕ × (ℕ × ℕ)) (coded× (coded_list coded_ℕ) (coded× coded_ℕ coded_ℕ)) (λ m. (m.nodes, (m.lowest, m.beyond))) (λ p. record { nodes = p.0; lowest = p.1.0; beyond = p.1.1 }) (λ _. refl)

-- there is room for each of some nodes
abbrev pub HasSpare : MarkList → List Node → Type 0
HasSpare m nodes = All (λ (n : Node). (m.lowest ≤ n.number) × (n.number < m.beyond)) nodes

-- the numbers of marks
abbrev pub numbers : List Seq → List ℕ
numbers qs = map (λ (q : Seq). q.0) qs

abbrev pub marks_of : Inside → MarkList
marks_of a = record { nodes = numbers a.nodes.items; lowest = a.lowest; beyond = a.lowest + length a.seen.items }

-- a number is seen where it is marked, each mark is in the room and marked once
pub record IsKept (qs : List ℕ) (lowest : ℕ) (seen : List Bool) (capacity : ℕ) : Type 0 where
  pub exact : (k : ℕ) → k < length seen → slice_index_or seen k false ≡ has (lowest + k) qs
  pub within : AllByRecursion (λ q. (lowest ≤ q) × (q < lowest + length seen)) qs
  pub once : IsOnce qs
  pub count : count_by (λ b. b) seen ≡ length qs
  pub spare : length seen ≤ capacity
