-- What is ahead of a place, and what is before it.
use Rattle.std.specs.Prelude.{◌≡◌, ℕ, suc, ◌<◌, ◌≤◌, ◌+◌, Bool, true, false, cond, ◌&&◌, List, [], ◌∷◌, length, nat_lt, Option, Some, None}
use Rattle.comm_graph.specs.declared.table.Entry.{Entry}
use Rattle.comm_graph.specs.Node.{Node, acts}
use Rattle.comm_graph.specs.Table.{look, in_line, thread}

-- the thread t acts in the live entry at a place
abbrev pub acting : ℕ → List Entry → ℕ → ℕ → Bool
acting t = look (λ e. e.live && acts t e.kind) false

-- the thread t acts in no entry between the places p and v, or in none behind p where v is 0
pub record IsAhead (es : List Entry) (gone threads t p v : ℕ) : Type 0 where
  pub none : v ≡ 0 → (k : ℕ) → p < k → acting t es gone k ≡ false
  pub between : (k : ℕ) → p < k → k < v → acting t es gone k ≡ false
  pub within : 0 < v → (p < v) × (v ≤ gone + length es)
  pub line : 0 < v → t < threads → in_line (thread t) es gone v ≡ true

-- the number of the entry at a place, where there is one
abbrev pub number_at : List Entry → ℕ → Option ℕ → List ℕ
number_at es gone None = []
number_at es gone (Some p) = look (λ e. e.number.0 ∷ []) [] es gone p

-- the nodes before a place
abbrev pub nodes_before : List Entry → ℕ → ℕ → List Node
nodes_before [] gone k = []
nodes_before (e ∷ es) gone k = cond (nat_lt (suc gone) k) (cond e.live (record { number = e.number.0; kind = e.kind } ∷ nodes_before es (suc gone) k) (nodes_before es (suc gone) k)) []
