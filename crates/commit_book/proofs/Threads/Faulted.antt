-- How many threads failed, once one has changed or was added.
use Rattle.std.proofs.Common.{◌≡◌, ◌≢◌, ℕ, zero, suc, ◌+◌, ◌<◌, ◌≤◌, Bool, true, false, cond, not, ◌&&◌, nat_eq, List, [], ◌∷◌, length, Some, refl, sym, ap, ◌∙◌, arith, add-one, length-append}
use Rattle.std.specs.Prelude.{option_map}
use Rattle.std.specs.Option.{option_map_or}
use Rattle.std.specs.Ordering.{nat_cmp}
use Rattle.std.specs.FinMap as map
use Rattle.std.specs.FinMap.{FinMap}
use Rattle.std.proofs.lemmas.Bool.{false≢true, eqb-true}
use Rattle.std.specs.Cmp.{nat_eq_equiv}
use Rattle.stab_code.specs.Program.{ProgramParts}
use Rattle.thread_slots.specs.Ready.{numbers}
use Rattle.thread_slots.specs.Slot.{Slot, changed}
use Rattle.thread_slots.proofs.Counted.{numbers-same, numbers-few}
use Rattle.language.proofs.Applying.{get_inserted}
use Rattle.step_eval.specs.ControlView.{ControlView, expr_of}
use Rattle.commit_book.specs.Counts.{is_faulted_at, faulted_in}
use Rattle.commit_book.specs.Doing.{is_failed}
use Rattle.commit_book.proofs.Keeping.Floors.{differs_too}
use Rattle.commit_book.proofs.Threads.Lending.{get-changed}

-- one where it is so
abbrev pub one_if : Bool → ℕ
one_if b = cond b 1 0

one_longer : (p : ℕ → Bool) (n : ℕ) → length (numbers p (suc n)) ≡ length (numbers p n) + one_if (p n)
one_longer p n = length-append (numbers p n) (cond (p n) (n ∷ []) []) ∙ ap (λ k. length (numbers p n) + k) (single (p n))
  where
    single : (b : Bool) → length (cond {A = List ℕ} b (n ∷ []) []) ≡ one_if b
    single true = refl
    single false = refl

unlike : (a b : ℕ) → nat_eq a b ≡ false → a ≢ b
unlike a b apart same = false≢true (sym apart ∙ ap (λ k. nat_eq a k) (sym same) ∙ nat_eq_equiv.refl a)

-- at one number another answer
pub one_other : (p q : ℕ → Bool) (t n : ℕ) → t < n → ((u : ℕ) → nat_eq u t ≡ false → q u ≡ p u) → length (numbers q n) + one_if (p t) ≡ length (numbers p n) + one_if (q t)
one_other p q t zero low is = absurd (omega arith)
one_other p q t (suc n) low is =
    elim (nat_eq n t) as (λ b. nat_eq n t ≡ b → length (numbers q (suc n)) + one_if (p t) ≡ length (numbers p (suc n)) + one_if (q t)) [
      | true ↦ λ here. at_last (eqb-true n t here)
      | false ↦ λ apart.
          let more : length (numbers q n) + one_if (p t) ≡ length (numbers p n) + one_if (q t) = one_other p q t n (lower (unlike n t apart)) is in
          let a = one_longer q n in
          let b = one_longer p n in
          let c : one_if (q n) ≡ one_if (p n) = ap one_if (is n apart) in
          omega (arith, more, a, b, c)
    ] refl
  where
    lower : n ≢ t → t < n
    lower other = omega (arith, other, low)

    at_last : n ≡ t → length (numbers q (suc n)) + one_if (p t) ≡ length (numbers p (suc n)) + one_if (q t)
    at_last same =
        let rest : length (numbers q n) ≡ length (numbers p n) = ap length (numbers-same p q n (λ u below. is u (differs_too u t (omega (arith, below, same))))) in
        let a = one_longer q n in
        let b = one_longer p n in
        let c : one_if (p n) ≡ one_if (p t) = ap (λ k. one_if (p k)) same in
        let d : one_if (q n) ≡ one_if (q t) = ap (λ k. one_if (q k)) same in
        omega (arith, rest, a, b, c, d)

module _ (p : ProgramParts) where
  -- a thread changed: the count falls by one where it had failed, and rises by one where it has failed now
  pub faulted_changed : (threads : FinMap nat_cmp (Slot ControlView)) (t n : ℕ) (f : Slot ControlView → Slot ControlView) (slot : Slot ControlView) → map.get threads t ≡ Some slot → t < n
      → faulted_in p (changed threads t f) n + one_if (is_failed (expr_of p slot.control)) ≡ faulted_in p threads n + one_if (is_failed (expr_of p (f slot).control))
  faulted_changed threads t n f slot found low =
      let there : is_faulted_at p threads t ≡ is_failed (expr_of p slot.control) = ap (λ o. option_map_or (λ (s : Slot ControlView). is_failed (expr_of p s.control)) o false) found in
      let here : is_faulted_at p (changed threads t f) t ≡ is_failed (expr_of p (f slot).control) =
      ap (λ o. option_map_or (λ (s : Slot ControlView). is_failed (expr_of p s.control)) o false)
      (get-changed threads t t f ∙ ap (λ b. cond b (option_map f (map.get threads t)) (map.get threads t)) (nat_eq_equiv.refl t) ∙ ap (option_map f) found) in
      let others : (u : ℕ) → nat_eq u t ≡ false → is_faulted_at p (changed threads t f) u ≡ is_faulted_at p threads u =
      λ u apart. ap (λ o. option_map_or (λ (s : Slot ControlView). is_failed (expr_of p s.control)) o false)
      (get-changed threads t u f ∙ ap (λ b. cond b (option_map f (map.get threads t)) (map.get threads u)) apart) in
      ap (λ b. faulted_in p (changed threads t f) n + one_if b) (sym there)
      ∙ one_other (is_faulted_at p threads) (is_faulted_at p (changed threads t f)) t n low others
      ∙ ap (λ b. faulted_in p threads n + one_if b) here

  -- where it has failed as often as before
  pub faulted_same : (threads : FinMap nat_cmp (Slot ControlView)) (t n : ℕ) (f : Slot ControlView → Slot ControlView) (slot : Slot ControlView) → map.get threads t ≡ Some slot → t < n
      → is_failed (expr_of p (f slot).control) ≡ is_failed (expr_of p slot.control) → faulted_in p (changed threads t f) n ≡ faulted_in p threads n
  faulted_same threads t n f slot found low same =
      let sum = faulted_changed threads t n f slot found low in
      let one : one_if (is_failed (expr_of p (f slot).control)) ≡ one_if (is_failed (expr_of p slot.control)) = ap one_if same in
      omega (arith, sum, one)

  -- where one that had failed has failed still: it rises by one where the thread has failed just now
  pub faulted_goes : (threads : FinMap nat_cmp (Slot ControlView)) (t n : ℕ) (f : Slot ControlView → Slot ControlView) (slot : Slot ControlView) → map.get threads t ≡ Some slot → t < n
      → (is_failed (expr_of p slot.control) ≡ true → is_failed (expr_of p (f slot).control) ≡ true)
      → faulted_in p (changed threads t f) n ≡ faulted_in p threads n + one_if (is_failed (expr_of p (f slot).control) && not (is_failed (expr_of p slot.control)))
  faulted_goes threads t n f slot found low stays =
      by_past (is_failed (expr_of p slot.control)) (is_failed (expr_of p (f slot).control)) (faulted_in p (changed threads t f) n) (faulted_in p threads n) stays (faulted_changed threads t n f slot found low)
    where
      by_past : (was now : Bool) (a b : ℕ) → (was ≡ true → now ≡ true) → a + one_if was ≡ b + one_if now → a ≡ b + one_if (now && not was)
      by_past true true a b stays sum = omega (arith, sum)
      by_past true false a b stays sum = absurd (false≢true (stays refl))
      by_past false true a b stays sum = omega (arith, sum)
      by_past false false a b stays sum = omega (arith, sum)

  -- the next thread was added
  pub faulted_added : (threads : FinMap nat_cmp (Slot ControlView)) (n : ℕ) (slot : Slot ControlView)
      → faulted_in p (map.insert threads n slot) (n + 1) ≡ faulted_in p threads n + one_if (is_failed (expr_of p slot.control))
  faulted_added threads n slot =
      let q : ℕ → Bool = is_faulted_at p (map.insert threads n slot) in
      let here : q n ≡ is_failed (expr_of p slot.control) =
      ap (λ o. option_map_or (λ (s : Slot ControlView). is_failed (expr_of p s.control)) o false)
      (get_inserted threads n slot n ∙ ap (λ b. cond b (Some slot) (map.get threads n)) (nat_eq_equiv.refl n)) in
      let others : (u : ℕ) → u < n → q u ≡ is_faulted_at p threads u =
      λ u below. ap (λ o. option_map_or (λ (s : Slot ControlView). is_failed (expr_of p s.control)) o false)
      (get_inserted threads n slot u ∙ ap (λ b. cond b (Some slot) (map.get threads u)) (differs_too u n below)) in
      ap (λ k. length (numbers q k)) (add-one n)
      ∙ one_longer q n
      ∙ ap (λ k. k + one_if (q n)) (ap length (numbers-same (is_faulted_at p threads) q n others))
      ∙ ap (λ b. faulted_in p threads n + one_if b) here

  -- no more threads failed than there are
  pub faulted_few : (threads : FinMap nat_cmp (Slot ControlView)) (n : ℕ) → faulted_in p threads n ≤ n
  faulted_few threads n = numbers-few (is_faulted_at p threads) n
