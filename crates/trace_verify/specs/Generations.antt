-- How often each thread was put back, as it is kept.
use Rattle.std.specs.Prelude.{◌≡◌, ℕ, suc, ◌≤◌, ◌<◌, cond, nat_eq, option_map, unwrap_or}
use Rattle.std.specs.Ordering.{nat_cmp}
use Rattle.std.specs.BTreeMap.{get}
use Rattle.trace_verify.specs.declared.generations.Generations.{Generations}
use Rattle.trace_verify.specs.declared.generations.PutBack.{PutBack}

-- how often the thread was put back
abbrev pub times : Generations → ℕ → ℕ
times g t = unwrap_or (option_map (λ (b : PutBack). b.times) (get nat_cmp g.threads t)) 0

-- the number of the undo that put the thread back last, 0 where none did
abbrev pub last : Generations → ℕ → ℕ
last g t = unwrap_or (option_map (λ (b : PutBack). b.last) (get nat_cmp g.threads t)) 0

-- undos before the one numbered q put threads back, each of them once at most
abbrev pub AreBefore : ℕ → Generations → Type 0
AreBefore q g = (t : ℕ) → (times g t ≤ last g t) × (last g t < q)

-- the undo numbered q is counted for the thread t, which it was perhaps already, and for no other thread
abbrev pub Counts : ℕ → ℕ → Generations → Generations → Type 0
Counts q t g h =
    (u : ℕ) → (times h u ≡ cond (nat_eq u t) (cond (nat_eq (last g u) q) (times g u) (suc (times g u))) (times g u)) × (last h u ≡ cond (nat_eq u t) q (last g u))
