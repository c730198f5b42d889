-- The map of controls that entries stand for.
use Rattle.std.proofs.Common.{◌≡◌, ℕ, Bool, true, false, cond, ◌&&◌, not, nat_eq, List, [], ◌∷◌, Option, Some, None, refl, sym, ap, ◌∙◌}
use Rattle.std.specs.declared.cmp.Ordering.{Ordering}
use Rattle.std.specs.declared.cmp.Ordering.TheVariants.{Less, Equal, Greater}
use Rattle.std.specs.Ordering.{nat_cmp, ordering_then, is_eq, eq_by_cmp}
use Rattle.std.specs.Cmp.{IsTotalOrder, nat_cmp_total, unsigned_tied}
use Rattle.std.specs.FinMap.{FinMap, get, insert, remove, retain_keys, get-empty, get-insert, get-remove, get-retain_keys, same_map}
use Rattle.std.proofs.lemmas.Map.Lookups.{CmpEqualImpliesEq, exact_pairs, exact_unsigned}
use Rattle.std.proofs.lemmas.Cmp.{on_total, then_total}
use Rattle.checkpoint_store.specs.declared.entries.Entry.{Entry}
use Rattle.checkpoint_store.specs.Saved.{Place, place_cmp, same_place}
use Rattle.checkpoint_store.specs.Layout.{found, with_control, controls_of}

-- places that compare alike are one
exact_places : CmpEqualImpliesEq place_cmp
exact_places a b h = ap (λ (n : ℕ × ℕ). let p : Place = (record { 0 = n.0 }, record { 0 = n.1 }) in p) (exact_pairs nat_cmp nat_cmp exact_unsigned exact_unsigned (a.0.0, a.1.0) (b.0.0, b.1.0) h)

places_total : IsTotalOrder place_cmp
places_total = then_total (on_total (λ (p : Place). p.0.0) nat_cmp_total) (on_total (λ (p : Place). p.1.0) nat_cmp_total)

both_equal : (a b : Ordering) → is_eq (ordering_then a b) ≡ (is_eq a && is_eq b)
both_equal Less b = refl
both_equal Equal b = refl
both_equal Greater b = refl

-- a map's test of two places
same_by_cmp : (p k : Place) → eq_by_cmp place_cmp k p ≡ same_place p k
same_by_cmp p k =
    both_equal (nat_cmp k.0.0 p.0.0) (nat_cmp k.1.0 p.1.0)
    ∙ ap (λ x. x && is_eq (nat_cmp k.1.0 p.1.0)) (unsigned_tied k.0.0 p.0.0)
    ∙ ap (λ x. nat_eq k.0.0 p.0.0 && x) (unsigned_tied k.1.0 p.1.0)

alike : (p : Place → Bool) (k x : Place) → place_cmp k x ≡ Equal → p x ≡ p k
alike p k x h = ap p (sym (exact_places k x h))

module _ {C : Type 0} where
  -- what is saved at a place after each kind of change
  pub get-saved : (m : FinMap place_cmp C) (p k : Place) (v : C) → get (insert m p v) k ≡ cond (same_place p k) (Some v) (get m k)
  get-saved m p k v = get-insert places_total m p v k ∙ ap (λ b. cond b (Some v) (get m k)) (same_by_cmp p k)

  pub get-taken : (m : FinMap place_cmp C) (p k : Place) → get (remove m p) k ≡ cond (same_place p k) None (get m k)
  get-taken m p k = get-remove places_total m p k ∙ ap (λ b. cond b None (get m k)) (same_by_cmp p k)

  unless : (b : Bool) (y : Option C) → cond (not b) y None ≡ cond b None y
  unless true y = refl
  unless false y = refl

  pub get-dropped : (m : FinMap place_cmp C) (p : Place → Bool) (k : Place) → get (retain_keys m (λ x. not (p x))) k ≡ cond (p k) None (get m k)
  get-dropped m p k = get-retain_keys m (λ x. not (p x)) k (alike (λ x. not (p x)) k) ∙ unless (p k) (get m k)

  with_found : (o : Option C) (p : Place) (m : FinMap place_cmp C) (k : Place) → get (with_control p o m) k ≡ cond (same_place p k) o (get m k)
  with_found None p m k = get-taken m p k
  with_found (Some v) p m k = get-saved m p k v

  -- the map has at a place what the entries have
  pub get-found : (es : List (Entry C)) (k : Place) → get (controls_of es) k ≡ found es k
  get-found [] k = get-empty place_cmp k
  get-found (e ∷ es) k = with_found e.control e.place (controls_of es) k ∙ ap (cond (same_place e.place k) e.control) (get-found es k)

  -- entries that have what a map has
  pub same_controls : (es : List (Entry C)) (m : FinMap place_cmp C) → ((k : Place) → found es k ≡ get m k) → controls_of es ≡ m
  same_controls es m h = same_map places_total exact_places _ _ (λ k. get-found es k ∙ h k)

  -- a change of entries is one of the map that they stand for
  pub after_change : (es fs : List (Entry C)) (old new : FinMap place_cmp C) (p : Place → Bool) (o : Option C) → controls_of es ≡ old → ((k : Place) → found fs k ≡ cond (p k) o (found es k)) → ((k : Place) → get new k ≡ cond (p k) o (get old k)) → controls_of fs ≡ new
  after_change es fs old new p o before after is = same_controls fs new (λ k. after k ∙ ap (cond (p k) o) (sym (get-found es k) ∙ ap (λ m. get m k) before) ∙ sym (is k))
