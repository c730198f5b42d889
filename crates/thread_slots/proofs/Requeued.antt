-- How the queue changes, over lists of numbers alone.
use Rattle.std.proofs.Common.{◌≡◌, ℕ, Bool, true, false, cond, not, ◌&&◌, ◌||◌, nat_eq, List, [], ◌∷◌, ◌++◌, refl, sym, ap, ◌∙◌, subst, arith}
use Rattle.std.specs.Cmp.{nat_eq_equiv}
use Rattle.std.proofs.lemmas.Bool.Decides.{nat_tests}
use Rattle.std.proofs.lemmas.List.{append-nil}
use Rattle.std.proofs.lemmas.List.Folds.{list_any-append}
use Rattle.std.proofs.lemmas.Map.Keys.{IsDistinct-push}
use Rattle.linked_lists.specs.Lists.{without}
use Rattle.linked_lists.proofs.Leaving.{not_itself, is_listed-without, IsDistinct-filter}
use Rattle.thread_slots.specs.Ready.{IsQueueOf}

-- t leaves the queue
pub IsQueueOf-without : {is_ready : ℕ → Bool} (is_ready' : ℕ → Bool) (t : ℕ) (queue : List ℕ) → ((u : ℕ) → is_ready' u ≡ (not (nat_eq t u) && is_ready u)) → IsQueueOf is_ready queue → IsQueueOf is_ready' (without t queue)
IsQueueOf-without is_ready' t queue is old = record {
  once = IsDistinct-filter nat_eq _ queue old.once;
  ready = λ u. is_listed-without t u queue ∙ ap (λ b. not (nat_eq t u) && b) (old.ready u) ∙ sym (is u);
}

last_of : (u t : ℕ) (q r b : Bool) → q ≡ r → b ≡ (nat_eq t u || r) → (q || (nat_eq u t || false)) ≡ b
last_of u t q r b was is = grind (arith, nat_tests)

-- t, which isn't in the queue, comes to its tail
IsQueueOf-push : {is_ready : ℕ → Bool} (is_ready' : ℕ → Bool) (t : ℕ) (queue : List ℕ) → is_ready t ≡ false → ((u : ℕ) → is_ready' u ≡ (nat_eq t u || is_ready u)) → IsQueueOf is_ready queue → IsQueueOf is_ready' (queue ++ t ∷ [])
IsQueueOf-push is_ready' t queue out is old = record {
  once = IsDistinct-push nat_eq_equiv queue t old.once (old.ready t ∙ out);
  ready = λ u. list_any-append (nat_eq u) queue (t ∷ []) ∙ last_of u t _ _ _ (old.ready u) (is u);
}

again : (t u : ℕ) (b r : Bool) → b ≡ cond (nat_eq t u) true r → b ≡ (nat_eq t u || (not (nat_eq t u) && r))
again t u b r is = elim (nat_eq t u) as (λ e. b ≡ cond e true r → b ≡ (e || (not e && r))) [ true ↦ λ h. h | false ↦ λ h. h ] is

pub unless : (t u : ℕ) (b r : Bool) → b ≡ cond (nat_eq t u) false r → b ≡ (not (nat_eq t u) && r)
unless t u b r is = elim (nat_eq t u) as (λ e. b ≡ cond e false r → b ≡ (not e && r)) [ true ↦ λ h. h | false ↦ λ h. h ] is

-- t leaves its place, and stands at the tail where it is ready then
pub IsQueueOf-requeued : {is_ready : ℕ → Bool} (is_ready' : ℕ → Bool) (t : ℕ) (b : Bool) (queue : List ℕ) → ((u : ℕ) → is_ready' u ≡ cond (nat_eq t u) b (is_ready u)) → IsQueueOf is_ready queue → IsQueueOf is_ready' (without t queue ++ cond b (t ∷ []) [])
IsQueueOf-requeued {is_ready} is_ready' t true queue is old =
    IsQueueOf-push is_ready' t (without t queue) (not_itself t (is_ready t)) (λ u. again t u _ _ (is u)) (IsQueueOf-without (λ u. not (nat_eq t u) && is_ready u) t queue (λ u. refl) old)
IsQueueOf-requeued is_ready' t false queue is old =
    subst (IsQueueOf is_ready') (sym (append-nil (without t queue))) (IsQueueOf-without is_ready' t queue (λ u. unless t u _ _ (is u)) old)
