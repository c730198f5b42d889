-- The map of the threads when one entry is written.
use Rattle.std.proofs.Common.{◌≡◌, ℕ, ◌+◌, ◌≤◌, ◌<◌, false, nat_eq, List, [], ◌∷◌, ◌++◌, length, get_or, set, Option, Some, None, IsSome, IsSomeAnd, IfSome, option_map, refl, sym, ap, ◌∙◌, subst, arith}
use Rattle.std.specs.List.{IsDistinct}
use Rattle.std.specs.Option.{option_map_or}
use Rattle.std.specs.Ordering.{nat_cmp}
use Rattle.std.specs.FinMap.{get, insert, remove, empty}
use Rattle.thread_slots.specs.Ready.{IsQueueOf}
use Rattle.std.proofs.lemmas.List.{map-set, map-append, length-map, get_or_default, get_or_past}
use Rattle.std.proofs.Math.ListN.{get_or-map}
use Rattle.thread_slots.specs.declared.entries.Entry.{Entry}
use Rattle.thread_slots.specs.Slot.{Slot, is_ready, is_ready_at, changed, put_changed, IsSound}
use Rattle.linked_lists.specs.Numbered.{by_number}
use Rattle.thread_slots.specs.Layout.{slot_of, places, live}
use Rattle.thread_slots.proofs.Numbered.{get-by_number, by_number-set, by_number-clear, by_number-open, get-by_number-0, number_of}

module _ {C : Type 0} where
  pub get-places : (es : List (Option (Entry C))) (t i : ℕ) → t ≡ i + 1 → get (live es) t ≡ option_map slot_of (get_or es i None)
  get-places es t i at = get-by_number (places es) t i at ∙ get_or-map (option_map slot_of) es i None

  pub number_of_live : (es : List (Option (Entry C))) (t : ℕ) → IsSome (get (live es) t) → (1 ≤ t) × (t < length es + 1)
  number_of_live es t there =
      let low : (1 ≤ t) × (t < length (places es) + 1) = number_of (places es) t there in
      (low.0, omega (arith, length-map es (option_map slot_of), low.1))

  pub by_number-write : (es : List (Option (Entry C))) (t i : ℕ) (e : Entry C) → t ≡ i + 1 → i < length es → by_number 1 (places (set es i (Some e))) ≡ insert (live es) t (slot_of e)
  by_number-write es t i e at low =
      ap (by_number 1) (map-set (option_map slot_of) es i (Some e))
      ∙ by_number-set (places es) i (slot_of e) (omega (arith, length-map es (option_map slot_of)))
      ∙ ap (λ n. insert (live es) n (slot_of e)) (sym at)

  put_some : (es : List (Option (Entry C))) (t : ℕ) (f : Slot C → Slot C) (o : Option (Slot C)) (slot : Slot C) → get (live es) t ≡ o → o ≡ Some slot → changed (live es) t f ≡ insert (live es) t (f slot)
  put_some es t f o slot was is = ap (put_changed (live es) t f) (was ∙ is)

  -- the entry of a live thread is written as f changes its slot
  pub changed-write : (es : List (Option (Entry C))) (t i : ℕ) (f : Slot C → Slot C) (e w : Entry C) (d : Option (Entry C)) → t ≡ i + 1 → i < length es → get_or es i d ≡ Some e → slot_of w ≡ f (slot_of e) → by_number 1 (places (set es i (Some w))) ≡ changed (live es) t f
  changed-write es t i f e w d at low was is =
      by_number-write es t i w at low
      ∙ ap (insert (live es) t) is
      ∙ sym (put_some es t f _ (slot_of e) refl (get-places es t i at ∙ ap (option_map slot_of) (get_or_default es i None d low ∙ was)))

  -- the entry of a live thread is taken away
  pub by_number-take : (es : List (Option (Entry C))) (t i : ℕ) → t ≡ i + 1 → i < length es → by_number 1 (places (set es i None)) ≡ remove (live es) t
  by_number-take es t i at low =
      ap (by_number 1) (map-set (option_map slot_of) es i None)
      ∙ by_number-clear (places es) i (omega (arith, length-map es (option_map slot_of)))
      ∙ ap (remove (live es)) (sym at)

  -- where a live thread has no entry
  pub no_entry : {P : Type 0} (es : List (Option (Entry C))) (t i : ℕ) (d : Option (Entry C)) → t ≡ i + 1 → i < length es → IsSome (get (live es) t) → get_or es i d ≡ None → P
  no_entry es t i d at low there none =
      let nothing : IsSome (option_map (slot_of {C = C}) None) = subst (λ o. IsSome o) (get-places es t i at ∙ ap (option_map slot_of) (get_or_default es i None d low ∙ none)) there in cc

  -- a slot of which something holds is there
  pub live_above : (o : Option (Slot C)) (P : Slot C → Type 0) → IsSomeAnd o P → IsSome o
  live_above None P h = absurd h
  live_above (Some slot) P h = refl

  -- what holds of a live thread's slot holds of what its entry shows
  pub of_entry : (es : List (Option (Entry C))) (t i : ℕ) (d : Option (Entry C)) (e : Entry C) (P : Slot C → Type 0) → t ≡ i + 1 → i < length es → get_or es i d ≡ Some e → IsSomeAnd (get (live es) t) P → P (slot_of e)
  of_entry es t i d e P at low was h =
      subst (λ o. IsSomeAnd o P) (get-places es t i at ∙ ap (option_map slot_of) (get_or_default es i None d low ∙ was)) h

  pub none_at_0 : (es : List (Option (Entry C))) (t : ℕ) → t ≡ 0 → get (live es) t ≡ None
  none_at_0 es t e = ap (get (live es)) e ∙ get-by_number-0 (places es)

  pub none_past : (es : List (Option (Entry C))) (t i : ℕ) → t ≡ i + 1 → length es ≤ i → get (live es) t ≡ None
  none_past es t i at high = get-places es t i at ∙ ap (option_map slot_of) (get_or_past es i None high)

  -- no thread is at a new place
  pub threads-open : (es : List (Option (Entry C))) → by_number 1 (places (es ++ None ∷ [])) ≡ live es
  threads-open es = ap (by_number 1) (map-append (option_map slot_of) es (None ∷ [])) ∙ by_number-open (places es)

  -- and the other way round
  pub to_entry : (es : List (Option (Entry C))) (t i : ℕ) (d : Option (Entry C)) (e : Entry C) (P : Slot C → Type 0) → t ≡ i + 1 → i < length es → get_or es i d ≡ Some e → P (slot_of e) → IfSome (get (live es) t) P
  to_entry es t i d e P at low was h =
      subst (λ o. IfSome o P) (sym (get-places es t i at ∙ ap (option_map slot_of) (get_or_default es i None d low ∙ was))) h

  pub live_new : (es : List (Option (Entry C))) → es ≡ [] → live es ≡ empty
  live_new [] none = refl
  live_new (e ∷ es) none = cc
