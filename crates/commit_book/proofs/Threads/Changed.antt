-- What holds of each live thread, once one has changed or was added.
use Rattle.std.proofs.Common.{◌≡◌, ℕ, true, false, cond, nat_eq, Option, Some, None, refl, sym, subst}
use Rattle.std.specs.Prelude.{IfSome, option_map}
use Rattle.std.specs.Ordering.{nat_cmp}
use Rattle.std.specs.FinMap as map
use Rattle.std.specs.FinMap.{FinMap}
use Rattle.std.proofs.lemmas.Bool.{eqb-true}
use Rattle.thread_slots.specs.Slot.{Slot, changed}
use Rattle.language.proofs.Applying.{get_inserted}
use Rattle.commit_book.proofs.Threads.Lending.{get-changed}

module _ {C : Type 0} (P : ℕ → Slot C → Type 0) where
  if_changed : (t u : ℕ) (f : Slot C → Slot C) (o : Option (Slot C)) → u ≡ t → IfSome o (λ s. P t (f s)) → IfSome (option_map f o) (P u)
  if_changed t u f None is h = tt
  if_changed t u f (Some s) is h = subst (λ (v : ℕ). P v (f s)) (sym is) h

  -- one thread changed
  pub each_changed : (threads : FinMap nat_cmp (Slot C)) (t : ℕ) (f : Slot C → Slot C) → ((u : ℕ) → IfSome (map.get threads u) (P u)) → IfSome (map.get threads t) (λ s. P t (f s)) → (u : ℕ) → IfSome (map.get (changed threads t f) u) (P u)
  each_changed threads t f all here u =
      subst (λ (o : Option (Slot C)). IfSome o (P u)) (sym (get-changed threads t u f))
      (elim (nat_eq u t) as (λ b. nat_eq u t ≡ b → IfSome (cond b (option_map f (map.get threads t)) (map.get threads u)) (P u)) [
        | true ↦ λ at. if_changed t u f (map.get threads t) (eqb-true u t at) here
        | false ↦ λ apart. all u
      ] refl)

  -- one thread was added
  pub each_added : (threads : FinMap nat_cmp (Slot C)) (t : ℕ) (slot : Slot C) → ((u : ℕ) → IfSome (map.get threads u) (P u)) → P t slot → (u : ℕ) → IfSome (map.get (map.insert threads t slot) u) (P u)
  each_added threads t slot all here u =
      subst (λ (o : Option (Slot C)). IfSome o (P u)) (sym (get_inserted threads t slot u))
      (elim (nat_eq u t) as (λ b. nat_eq u t ≡ b → IfSome (cond b (Some slot) (map.get threads u)) (P u)) [
        | true ↦ λ at. subst (λ (v : ℕ). P v slot) (sym (eqb-true u t at)) here
        | false ↦ λ apart. all u
      ] refl)
