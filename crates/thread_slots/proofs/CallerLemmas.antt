-- What a caller knows of one thread after a call, beside `get-insert` and `get-remove` of std.
use Rattle.std.proofs.Common.{◌≡◌, ℕ, cond, nat_eq, Option, Some, None, option_map, refl, sym, ap, ◌∙◌}
use Rattle.std.specs.Ordering.{nat_cmp}
use Rattle.std.specs.Cmp.{nat_cmp_total}
use Rattle.std.specs.FinMap.{FinMap, get, get-insert}
use Rattle.thread_slots.specs.Slot.{Slot, changed, put_changed}
use Rattle.thread_slots.proofs.Numbered.{cases_eq, apart, alike}
use Rattle.thread_slots.proofs.Kept.{flipped}

module _ {C : Type 0} where
  none_changed : (t u : ℕ) (o p : Option (Slot C)) → o ≡ None → (t ≡ u → p ≡ o) → p ≡ cond (nat_eq t u) None p
  none_changed t u o p none same =
      cases_eq t u (λ e. same e ∙ none ∙ sym (ap (λ b. cond b None p) (alike t u e))) (λ other. sym (ap (λ b. cond b None p) (apart t u other)))

  put_at : (threads : FinMap nat_cmp (Slot C)) (t u : ℕ) (f : Slot C → Slot C) (o : Option (Slot C)) → get threads t ≡ o → get (put_changed threads t f o) u ≡ cond (nat_eq t u) (option_map f o) (get threads u)
  put_at threads t u f None was = none_changed t u None (get threads u) refl (λ e. ap (get threads) (sym e) ∙ was)
  put_at threads t u f (Some slot) was = get-insert nat_cmp_total threads t (f slot) u ∙ ap (λ b. cond b (Some (f slot)) (get threads u)) (flipped t u)

  -- the slot of t is changed, and every other stays
  pub get-changed : (threads : FinMap nat_cmp (Slot C)) (t u : ℕ) (f : Slot C → Slot C) → get (changed threads t f) u ≡ cond (nat_eq t u) (option_map f (get threads t)) (get threads u)
  get-changed threads t u f = put_at threads t u f (get threads t) refl
