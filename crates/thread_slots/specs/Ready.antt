-- The queue of the threads that are ready.
use Rattle.std.specs.Prelude.{◌≡◌, ℕ, zero, suc, ◌≤◌, Bool, true, List, [], ◌∷◌, ◌++◌, nat_eq, if◌then◌else◌}
use Rattle.std.specs.List.{IsDistinct}
use Rattle.linked_lists.specs.Lists.{is_listed}

-- each thread that is ready stands once in the queue, and no other stands there
pub record IsQueueOf (is_ready : ℕ → Bool) (queue : List ℕ) : Type 0 where
  pub once : IsDistinct nat_eq queue
  pub ready : (t : ℕ) → is_listed t queue ≡ is_ready t

-- the least number of the list
pub record IsLeast (t : ℕ) (list : List ℕ) : Type 0 where
  pub there : is_listed t list ≡ true
  pub least : (u : ℕ) → is_listed u list ≡ true → t ≤ u

-- the numbers below n that pass, in order
abbrev pub numbers : (ℕ → Bool) → ℕ → List ℕ
numbers p zero = []
numbers p (suc n) = numbers p n ++ (if p n then n ∷ [] else [])
