-- Which threads are in a state, and the queue of them, at each change.
use Rattle.std.proofs.Common.{◌≡◌, ℕ, Bool, true, false, cond, nat_eq, List, [], ◌∷◌, ◌++◌, Option, Some, None, IsSome, refl, sym, ap, ◌∙◌, subst, arith}
use Rattle.std.specs.Option.{option_map_or}
use Rattle.std.specs.Ordering.{nat_cmp, eq_by_cmp}
use Rattle.std.specs.Cmp.{nat_cmp_total, unsigned_tied}
use Rattle.std.specs.FinMap.{FinMap, get, insert, remove, get-insert, get-remove}
use Rattle.std.proofs.lemmas.Bool.Decides.{nat_tests}
use Rattle.linked_lists.specs.Lists.{is_listed, without}
use Rattle.linked_lists.proofs.Leaving.{without-absent}
use Rattle.thread_slots.specs.declared.state.State.{State}
use Rattle.thread_slots.specs.Ready.{IsQueueOf}
use Rattle.thread_slots.specs.Slot.{Slot, same_state, is_in, changed, put_changed}
use Rattle.thread_slots.proofs.Requeued.{IsQueueOf-requeued, IsQueueOf-without, unless}

pub flipped : (t u : ℕ) → eq_by_cmp nat_cmp u t ≡ nat_eq t u
flipped t u = unsigned_tied u t ∙ grind (arith, nat_tests)

same_ready : (t u : ℕ) (b r r' : Bool) → r' ≡ cond (nat_eq t u) b r → (t ≡ u → r ≡ b) → r' ≡ r
same_ready t u b r r' is same = grind (arith, nat_tests)

module _ {C : Type 0} (s : State) where
  chosen : (b : Bool) (x y : Option (Slot C)) → option_map_or (λ slot. same_state s slot.state) (cond b x y) false ≡ cond b (option_map_or (λ slot. same_state s slot.state) x false) (option_map_or (λ slot. same_state s slot.state) y false)
  chosen true x y = refl
  chosen false x y = refl

  pub is_in-insert : (threads : FinMap nat_cmp (Slot C)) (t u : ℕ) (slot : Slot C) → is_in s (insert threads t slot) u ≡ cond (nat_eq t u) (same_state s slot.state) (is_in s threads u)
  is_in-insert threads t u slot =
      ap (λ o. option_map_or (λ slot. same_state s slot.state) o false) (get-insert nat_cmp_total threads t slot u ∙ ap (λ b. cond b (Some slot) (get threads u)) (flipped t u)) ∙ chosen (nat_eq t u) (Some slot) (get threads u)

  pub is_in-remove : (threads : FinMap nat_cmp (Slot C)) (t u : ℕ) → is_in s (remove threads t) u ≡ cond (nat_eq t u) false (is_in s threads u)
  is_in-remove threads t u =
      ap (λ o. option_map_or (λ slot. same_state s slot.state) o false) (get-remove nat_cmp_total threads t u ∙ ap (λ b. cond b None (get threads u)) (flipped t u)) ∙ chosen (nat_eq t u) None (get threads u)

  -- the state of a live thread is changed to k
  pub is_in-changed : (threads : FinMap nat_cmp (Slot C)) (t u : ℕ) (f : Slot C → Slot C) (k : State) → IsSome (get threads t) → ((slot : Slot C) → (f slot).state ≡ k) → is_in s (changed threads t f) u ≡ cond (nat_eq t u) (same_state s k) (is_in s threads u)
  is_in-changed threads t u f k live gives =
      elim (get threads t) as (λ o. IsSome o → is_in s (put_changed threads t f o) u ≡ cond (nat_eq t u) (same_state s k) (is_in s threads u)) [
        | None ↦ λ none. cc
        | Some slot ↦ λ _. is_in-insert threads t u (f slot) ∙ ap (λ k. cond (nat_eq t u) (same_state s k) (is_in s threads u)) (gives slot)
      ] live

  is_in-put : (threads : FinMap nat_cmp (Slot C)) (t u : ℕ) (f : Slot C → Slot C) (o : Option (Slot C)) → get threads t ≡ o → ((slot : Slot C) → (f slot).state ≡ slot.state) → is_in s (put_changed threads t f o) u ≡ is_in s threads u
  is_in-put threads t u f None was gives = refl
  is_in-put threads t u f (Some slot) was gives =
      same_ready t u _ _ _ (is_in-insert threads t u (f slot)) (λ same. ap (is_in s threads) (sym same) ∙ ap (λ o. option_map_or (λ slot. same_state s slot.state) o false) was ∙ sym (ap (same_state s) (gives slot)))

  -- a change that leaves the state as it was
  pub is_in-same : (threads : FinMap nat_cmp (Slot C)) (t u : ℕ) (f : Slot C → Slot C) → ((slot : Slot C) → (f slot).state ≡ slot.state) → is_in s (changed threads t f) u ≡ is_in s threads u
  is_in-same threads t u f gives = is_in-put threads t u f (get threads t) refl gives

  pub IsQueueOf-remove : (threads : FinMap nat_cmp (Slot C)) (queue : List ℕ) (t : ℕ) → IsQueueOf (is_in s threads) queue → IsQueueOf (is_in s (remove threads t)) (without t queue)
  IsQueueOf-remove threads queue t is = IsQueueOf-without _ t queue (λ u. unless t u _ _ (is_in-remove threads t u)) is

  -- the state of a live thread is changed, and it leaves its place
  pub IsQueueOf-changed : (threads : FinMap nat_cmp (Slot C)) (queue : List ℕ) (t : ℕ) (f : Slot C → Slot C) (k : State) → IsSome (get threads t) → ((slot : Slot C) → (f slot).state ≡ k) → IsQueueOf (is_in s threads) queue → IsQueueOf (is_in s (changed threads t f)) (without t queue ++ cond (same_state s k) (t ∷ []) [])
  IsQueueOf-changed threads queue t f k live gives is = IsQueueOf-requeued _ t (same_state s k) queue (λ u. is_in-changed threads t u f k live gives) is

  -- a change that leaves a thread in its state leaves the queue as it is
  pub IsQueueOf-same : (threads : FinMap nat_cmp (Slot C)) (queue : List ℕ) (t : ℕ) (f : Slot C → Slot C) → ((slot : Slot C) → (f slot).state ≡ slot.state) → IsQueueOf (is_in s threads) queue → IsQueueOf (is_in s (changed threads t f)) queue
  IsQueueOf-same threads queue t f gives is = record {
    once = is.once;
    ready = λ u. is.ready u ∙ sym (is_in-same threads t u f gives);
  }

  -- a new thread comes to the tail where it is in the state
  pub IsQueueOf-add : (threads : FinMap nat_cmp (Slot C)) (queue : List ℕ) (t : ℕ) (slot : Slot C) → get threads t ≡ None → IsQueueOf (is_in s threads) queue → IsQueueOf (is_in s (insert threads t slot)) (without t queue ++ cond (same_state s slot.state) (t ∷ []) [])
  IsQueueOf-add threads queue t slot out is = IsQueueOf-requeued _ t (same_state s slot.state) queue (λ u. is_in-insert threads t u slot) is

  -- a number that isn't live doesn't stand in the queue
  pub without-fresh : (threads : FinMap nat_cmp (Slot C)) (queue : List ℕ) (t : ℕ) → get threads t ≡ None → IsQueueOf (is_in s threads) queue → without t queue ≡ queue
  without-fresh threads queue t out is = without-absent t queue (is.ready t ∙ ap (λ o. option_map_or (λ slot. same_state s slot.state) o false) out)
