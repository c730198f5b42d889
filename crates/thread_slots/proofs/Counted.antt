-- How many threads are in a state, at each change.
use Rattle.std.proofs.Common.{◌≡◌, ◌≢◌, ℕ, zero, suc, ◌+◌, ◌-◌, ◌≤◌, ◌<◌, Bool, true, false, cond, nat_eq, List, [], ◌∷◌, ◌++◌, length, Option, Some, None, IsSome, refl, sym, ap, ◌∙◌, subst, arith, add-one, length-append}
use Rattle.std.specs.Option.{option_map_or}
use Rattle.std.specs.Ordering.{nat_cmp}
use Rattle.std.specs.FinMap.{FinMap, get, insert, remove}
use Rattle.thread_slots.specs.declared.counts.StateCounts.{StateCounts}
use Rattle.thread_slots.specs.declared.state.State.{State}
use Rattle.thread_slots.specs.declared.state.State.TheVariants.{Ready, Leased, Parked, Ended}
use Rattle.thread_slots.specs.Ready.{numbers}
use Rattle.thread_slots.specs.Slot.{Slot, count_of, same_state, is_in, changed}
use Rattle.thread_slots.specs.Layout.{IsCounted}
use Rattle.thread_slots.proofs.Numbered.{cases_eq, apart, alike}
use Rattle.thread_slots.proofs.Kept.{is_in-insert, is_in-remove, is_in-changed, is_in-same}

-- ---- numbers that pass

abbrev one : Bool → ℕ
one b = cond b 1 0

length-numbers : (p : ℕ → Bool) (n : ℕ) → length (numbers p (suc n)) ≡ length (numbers p n) + one (p n)
length-numbers p n = length-append (numbers p n) (cond (p n) (n ∷ []) []) ∙ ap (λ k. length (numbers p n) + k) (single (p n))
  where
    single : (b : Bool) → length (cond b (n ∷ []) []) ≡ one b
    single true = refl
    single false = refl

pub numbers-same : (p q : ℕ → Bool) (n : ℕ) → ((u : ℕ) → u < n → q u ≡ p u) → numbers q n ≡ numbers p n
numbers-same p q zero is = refl
numbers-same p q (suc n) is = ap (λ ns. ns ++ cond (q n) (n ∷ []) []) (numbers-same p q n (λ u low. is u (omega arith))) ∙ ap (λ b. numbers p n ++ cond b (n ∷ []) []) (is n (omega arith))

-- at one number another answer
changed_at : (p q : ℕ → Bool) (t n : ℕ) → t < n → ((u : ℕ) → u ≢ t → q u ≡ p u) → length (numbers q n) + one (p t) ≡ length (numbers p n) + one (q t)
changed_at p q t zero low is = absurd (omega arith)
changed_at p q t (suc n) low is =
    cases_eq t n
    (λ here.
    let rest : numbers q n ≡ numbers p n = numbers-same p q n (λ u below. is u (λ e. omega arith)) in
    let a : length (numbers q (suc n)) ≡ length (numbers q n) + one (q n) = length-numbers q n in
    let b : length (numbers p (suc n)) ≡ length (numbers p n) + one (p n) = length-numbers p n in
    let c : length (numbers q n) ≡ length (numbers p n) = ap length rest in
    let d : one (p t) ≡ one (p n) = ap (λ n. one (p n)) here in
    let e : one (q t) ≡ one (q n) = ap (λ n. one (q n)) here in
    omega arith)
    (λ there.
    let more : length (numbers q n) + one (p t) ≡ length (numbers p n) + one (q t) = changed_at p q t n (omega arith) is in
    let a : length (numbers q (suc n)) ≡ length (numbers q n) + one (q n) = length-numbers q n in
    let b : length (numbers p (suc n)) ≡ length (numbers p n) + one (p n) = length-numbers p n in
    let c : one (q n) ≡ one (p n) = ap one (is n (λ e. there (sym e))) in
    omega arith)

pub numbers-few : (p : ℕ → Bool) (n : ℕ) → length (numbers p n) ≤ n
numbers-few p zero = omega arith
numbers-few p (suc n) =
    let few : length (numbers p n) ≤ n = numbers-few p n in
    let a : length (numbers p (suc n)) ≡ length (numbers p n) + one (p n) = length-numbers p n in
    let b : one (p n) ≤ 1 = at_most_one (p n) in
    omega arith
  where
    at_most_one : (b : Bool) → one b ≤ 1
    at_most_one true = omega arith
    at_most_one false = omega arith

-- one that passes counts
pub numbers-some : (p : ℕ → Bool) (t n : ℕ) → t < n → p t ≡ true → 0 < length (numbers p n)
numbers-some p t n low passes =
    let q : ℕ → Bool = λ u. cond (nat_eq t u) false (p u) in
    let less : length (numbers q n) + one (p t) ≡ length (numbers p n) + one (q t) = changed_at p q t n low (λ u other. ap (λ b. cond b false (p u)) (apart t u (λ e. other (sym e)))) in
    let a : one (p t) ≡ 1 = ap one passes in
    let b : one (q t) ≡ 0 = ap (λ b. one (cond b false (p t))) (alike t t refl) in
    omega arith

-- ---- the counts of all states

pub itself : (s : State) → same_state s s ≡ true
itself Ready = refl
itself Leased = refl
itself Parked = refl
itself Ended = refl

at_t : (t u : ℕ) (a b : Bool) → t ≡ u → cond (nat_eq t u) a b ≡ a
at_t t u a b e = ap (λ x. cond x a b) (alike t u e)

off_t : (t u : ℕ) (a b : Bool) → u ≢ t → cond (nat_eq t u) a b ≡ b
off_t t u a b other = ap (λ x. cond x a b) (apart t u (λ e. other (sym e)))

moved : (a b : Bool) (c c' c'' m n : ℕ) → c ≡ m → c' ≡ cond a (c - 1) c → c'' ≡ cond b (c' + 1) c' → n + one a ≡ m + one b → (a ≡ true → 0 < m) → c'' ≡ n
moved true true c c' c'' m n e e' e'' k some = let h : 0 < m = some refl in omega arith
moved true false c c' c'' m n e e' e'' k some = let h : 0 < m = some refl in omega arith
moved false true c c' c'' m n e e' e'' k some = omega arith
moved false false c c' c'' m n e e' e'' k some = omega arith

module _ {C : Type 0} where
  state_of : (threads : FinMap nat_cmp (Slot C)) (t : ℕ) (s before : State) → IsSome (get threads t) → option_map_or (λ (slot : Slot C). slot.state) (get threads t) before ≡ before → is_in s threads t ≡ same_state s before
  state_of threads t s before live was =
      elim (get threads t) as (λ o. IsSome o → option_map_or (λ (slot : Slot C). slot.state) o before ≡ before → option_map_or (λ (slot : Slot C). same_state s slot.state) o false ≡ same_state s before) [
        | None ↦ λ none _. cc
        | Some slot ↦ λ _ e. ap (same_state s) e
      ] live was

  module _ (threads : FinMap nat_cmp (Slot C)) (n : ℕ) (counts : StateCounts) (t : ℕ) (before : State) (counted : IsCounted threads n counts) (low : t < n) (live : IsSome (get threads t)) (was : option_map_or (λ (slot : Slot C). slot.state) (get threads t) before ≡ before) where
    -- the state of a live thread has a count
    pub counted_some : 0 < count_of counts before
    counted_some =
        let some : 0 < length (numbers (is_in before threads) n) = numbers-some (is_in before threads) t n low (state_of threads t before before live was ∙ itself before) in
        let is : count_of counts before ≡ length (numbers (is_in before threads) n) = counted before in
        omega arith

    -- a live thread comes into another state
    pub IsCounted-moved : (f : Slot C → Slot C) (after : State) (between counts' : StateCounts) → ((slot : Slot C) → (f slot).state ≡ after) → ((s : State) → count_of between s ≡ cond (same_state s before) (count_of counts s - 1) (count_of counts s)) → ((s : State) → count_of counts' s ≡ cond (same_state s after) (count_of between s + 1) (count_of between s)) → IsCounted (changed threads t f) n counts'
    IsCounted-moved f after between counts' gives less more s =
        let p : ℕ → Bool = is_in s threads in
        let q : ℕ → Bool = is_in s (changed threads t f) in
        let is : (u : ℕ) → q u ≡ cond (nat_eq t u) (same_state s after) (p u) = λ u. is_in-changed s threads t u f after live gives in
        let p_t : p t ≡ same_state s before = state_of threads t s before live was in
        let q_t : q t ≡ same_state s after = is t ∙ at_t t t _ _ refl in
        moved (same_state s before) (same_state s after) (count_of counts s) (count_of between s) (count_of counts' s) (length (numbers p n)) (length (numbers q n)) (counted s) (less s) (more s)
        (ap (λ b. length (numbers q n) + one b) (sym p_t) ∙ changed_at p q t n low (λ u other. is u ∙ off_t t u _ _ other) ∙ ap (λ b. length (numbers p n) + one b) q_t)
        (λ e. numbers-some p t n low (p_t ∙ e))

    -- a thread is removed
    pub IsCounted-removed : (counts' : StateCounts) → ((s : State) → count_of counts' s ≡ cond (same_state s before) (count_of counts s - 1) (count_of counts s)) → IsCounted (remove threads t) n counts'
    IsCounted-removed counts' less s =
        let p : ℕ → Bool = is_in s threads in
        let q : ℕ → Bool = is_in s (remove threads t) in
        let is : (u : ℕ) → q u ≡ cond (nat_eq t u) false (p u) = λ u. is_in-remove s threads t u in
        let p_t : p t ≡ same_state s before = state_of threads t s before live was in
        let q_t : q t ≡ false = is t ∙ at_t t t _ _ refl in
        moved (same_state s before) false (count_of counts s) (count_of counts' s) (count_of counts' s) (length (numbers p n)) (length (numbers q n)) (counted s) (less s) refl
        (ap (λ b. length (numbers q n) + one b) (sym p_t) ∙ changed_at p q t n low (λ u other. is u ∙ off_t t u _ _ other) ∙ ap (λ b. length (numbers p n) + one b) q_t)
        (λ e. numbers-some p t n low (p_t ∙ e))

  -- a thread stays in its state
  pub IsCounted-same : (threads : FinMap nat_cmp (Slot C)) (n : ℕ) (counts : StateCounts) (t : ℕ) (f : Slot C → Slot C) → ((slot : Slot C) → (f slot).state ≡ slot.state) → IsCounted threads n counts → IsCounted (changed threads t f) n counts
  IsCounted-same threads n counts t f gives counted s = counted s ∙ ap length (sym (numbers-same (is_in s threads) (is_in s (changed threads t f)) n (λ u _. is_in-same s threads t u f gives)))

  -- a thread comes under the next number
  pub IsCounted-added : (threads : FinMap nat_cmp (Slot C)) (n : ℕ) (counts counts' : StateCounts) (slot : Slot C) → IsCounted threads n counts → ((s : State) → count_of counts' s ≡ cond (same_state s slot.state) (count_of counts s + 1) (count_of counts s)) → IsCounted (insert threads n slot) (suc n) counts'
  IsCounted-added threads n counts counts' slot counted more s =
      let p : ℕ → Bool = is_in s threads in
      let q : ℕ → Bool = is_in s (insert threads n slot) in
      let is : (u : ℕ) → q u ≡ cond (nat_eq n u) (same_state s slot.state) (p u) = λ u. is_in-insert s threads n u slot in
      let q_n : q n ≡ same_state s slot.state = is n ∙ at_t n n _ _ refl in
      let rest : numbers q n ≡ numbers p n = numbers-same p q n (λ u low. is u ∙ off_t n u _ _ (λ e. omega arith)) in
      added (same_state s slot.state) (count_of counts s) (count_of counts' s) (length (numbers q n)) (length (numbers q (suc n))) (counted s ∙ ap length (sym rest)) (more s) (length-numbers q n ∙ ap (λ b. length (numbers q n) + one b) q_n)
    where
      added : (b : Bool) (c c' m m' : ℕ) → c ≡ m → c' ≡ cond b (c + 1) c → m' ≡ m + one b → c' ≡ m'
      added true c c' m m' e e' k = omega arith
      added false c c' m m' e e' k = omega arith

  -- no count is large
  pub IsCounted-few : (threads : FinMap nat_cmp (Slot C)) (n : ℕ) (counts : StateCounts) (s : State) → IsCounted threads n counts → count_of counts s ≤ n
  IsCounted-few threads n counts s counted = let few : length (numbers (is_in s threads) n) ≤ n = numbers-few (is_in s threads) n in let is : count_of counts s ≡ length (numbers (is_in s threads) n) = counted s in omega arith
