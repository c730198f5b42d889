-- A line through places: the neighbours of each member, and the last one.
use Rattle.std.specs.Prelude.{◌≡◌, ℕ, ◌<◌, Bool, true, false}

-- v is the place of the last member before k, or of none
pub record IsBefore (mem : ℕ → Bool) (low k v : ℕ) : Type 0 where
  pub below : v < k
  pub there : low < v → mem v ≡ true
  pub none : (j : ℕ) → v < j → j < k → mem j ≡ false

-- v is the place of the first member after k, or 0
pub record IsAfter (mem : ℕ → Bool) (k v : ℕ) : Type 0 where
  pub there : 0 < v → (k < v) × (mem v ≡ true)
  pub none : (j : ℕ) → k < j → j < v → mem j ≡ false
  pub end : v ≡ 0 → (j : ℕ) → k < j → mem j ≡ false

-- all members are above low, know their neighbours, and none stands after the last one
pub record IsLine (mem : ℕ → Bool) (before after : ℕ → ℕ) (low last : ℕ) : Type 0 where
  pub above : (k : ℕ) → mem k ≡ true → low < k
  pub back : (k : ℕ) → mem k ≡ true → IsBefore mem low k (before k)
  pub on : (k : ℕ) → mem k ≡ true → IsAfter mem k (after k)
  pub member : low < last → mem last ≡ true
  pub end : (k : ℕ) → last < k → mem k ≡ false
