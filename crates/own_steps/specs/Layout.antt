-- How steps of threads are kept: all in one list, where each leads to its thread's step before it. What a thread keeps counts only where it leads to a step of that thread.
use Rattle.std.specs.Prelude.{◌≡◌, ℕ, zero, suc, ◌≤◌, ◌-◌, Bool, true, false, cond, nat_eq, min, List, [], ◌∷◌, ◌++◌, length, slice_get, vec_capacity, Vec, Option, Some, None}
use Rattle.own_steps.specs.declared.entries.Entry.{Entry}

-- an entry is there, and is the thread t's
abbrev pub is_of : ℕ → Option Entry → Bool
is_of t None = false
is_of t (Some e) = nat_eq t e.thread.0

-- the same of the place p, counted from 1
abbrev pub is_own : ℕ → ℕ → List Entry → Bool
is_own t zero entries = false
is_own t (suc i) entries = is_of t (slice_get entries i)

-- the place where the thread t's last step stands, or 0, where it keeps p
abbrev pub own_place : ℕ → ℕ → List Entry → ℕ
own_place t p entries = cond (is_own t p entries) p 0

abbrev pub step_in : Option Entry → List ℕ
step_in None = []
step_in (Some e) = e.step.0 ∷ []

abbrev pub before_in : Option Entry → ℕ
before_in None = 0
before_in (Some e) = e.before

-- among the first n entries the step at the place p, and before it those to which it leads
abbrev pub steps_to : ℕ → ℕ → List Entry → List ℕ
steps_to zero p entries = []
steps_to (suc n) p entries = cond (nat_eq p (suc n)) (steps_to n (before_in (slice_get entries n)) entries ++ step_in (slice_get entries n)) (steps_to n p entries)

-- the steps of the thread t, which keeps p
abbrev pub row : ℕ → ℕ → List Entry → List ℕ
row t p entries = steps_to (length entries) (own_place t p entries) entries

-- those of the threads from t on, by what they keep
abbrev pub rows_from : ℕ → List ℕ → List Entry → List (List ℕ)
rows_from t [] entries = []
rows_from t (p ∷ heads) entries = row t p entries ∷ rows_from (suc t) heads entries

-- an entry leads to an earlier one of its thread, or to none
pub record IsLinked (entries : List Entry) : Type 0 where
  pub earlier : (i : ℕ) (e : Entry) → slice_get entries i ≡ Some e → e.before ≤ i
  pub same : (i : ℕ) (e : Entry) → slice_get entries i ≡ Some e → 1 ≤ e.before → is_own e.thread.0 e.before entries ≡ true
  pub few : length entries ≤ 4294967295

-- for how many more entries there is room: a place has 32 bits
abbrev pub spare_in : {Z : Type 0} → Vec Entry Z → ℕ
spare_in entries = min (vec_capacity entries) 4294967295 - length entries.items
