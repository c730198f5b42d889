-- The order of places, and lists of entries that rise by it.
use Rattle.std.proofs.Common.{◌≡◌, ◌⊎◌, inl, inr, ℕ, suc, ◌+◌, ◌-◌, ◌<◌, ◌≤◌, Bool, true, false, ◌&&◌, ◌||◌, nat_eq, nat_lt, List, [], ◌∷◌, ◌++◌, length, drop, IsSome, refl, sym, ap, subst, ◌∙◌, arith}
use Rattle.std.specs.List.{slice_index_or, AllWithin}
use Rattle.std.specs.List.Sorted.{IsPartitionedBy}
use Rattle.std.proofs.lemmas.Bool.Decides.{nat_tests}
use Rattle.std.proofs.Math.ListN.{get_or-map}
use Rattle.std.proofs.Math.Seq.{get_or-append_seam}
use Rattle.std.proofs.lemmas.List.{length-map, length_push, map-append, get_or_append_left, get_or_default, get_or-map as get_or-map_at}
use Rattle.std.proofs.lemmas.List.Quantifiers.{all_pairs_push}
use Rattle.checkpoint_store.specs.declared.entries.Entry.{Entry}
use Rattle.checkpoint_store.specs.Saved.{Place, IsBelow, same_place}
use Rattle.checkpoint_store.specs.Layout.{is_below, places_of, found, Rises, IsKept}
use Rattle.checkpoint_store.proofs.Found.{found-at}

below_by : (a b c d : ℕ) → (a < b) ⊎ ((a ≡ b) × (c < d)) → (nat_lt a b || (nat_eq a b && nat_lt c d)) ≡ true
below_by a b c d (inl h) = grind (arith, nat_tests)
below_by a b c d (inr h) = grind (arith, nat_tests)

-- the test of the order
pub is_below-true : (a b : Place) → IsBelow a b → is_below a b ≡ true
is_below-true a b h = below_by a.0.0 b.0.0 a.1.0 b.1.0 h

by_tests : (a b c d : ℕ) (x y z : Bool) → nat_lt a b ≡ x → nat_eq a b ≡ y → nat_lt c d ≡ z → (x || (y && z)) ≡ true → (a < b) ⊎ ((a ≡ b) × (c < d))
by_tests a b c d true y z first same second h = inl (grind (arith, nat_tests))
by_tests a b c d false true true first same second h = inr (grind (arith, nat_tests), grind (arith, nat_tests))
by_tests a b c d false true false first same second h = cc
by_tests a b c d false false z first same second h = cc

pub IsBelow-is_below : (a b : Place) → is_below a b ≡ true → IsBelow a b
IsBelow-is_below a b h = by_tests a.0.0 b.0.0 a.1.0 b.1.0 (nat_lt a.0.0 b.0.0) (nat_eq a.0.0 b.0.0) (nat_lt a.1.0 b.1.0) refl refl refl h

pub below-trans : (a b c : Place) → IsBelow a b → IsBelow b c → IsBelow a c
below-trans a b c (inl h) (inl k) = inl (omega arith)
below-trans a b c (inl h) (inr k) = inl (omega (arith, k.0))
below-trans a b c (inr h) (inl k) = inl (omega (arith, h.0))
below-trans a b c (inr h) (inr k) = inr (omega (arith, h.0, k.0), omega (arith, h.1, k.1))

apart_by : (a b c d : ℕ) → (a < b) ⊎ ((a ≡ b) × (c < d)) → (nat_eq b a && nat_eq d c) ≡ false
apart_by a b c d (inl h) = grind (arith, nat_tests)
apart_by a b c d (inr h) = grind (arith, nat_tests)

-- a place below another is another
pub below-apart : (a b : Place) → IsBelow a b → same_place a b ≡ false
below-apart a b h = apart_by a.0.0 b.0.0 a.1.0 b.1.0 h

apart_back : (a b c d : ℕ) → (a < b) ⊎ ((a ≡ b) × (c < d)) → (nat_eq a b && nat_eq c d) ≡ false
apart_back a b c d (inl h) = grind (arith, nat_tests)
apart_back a b c d (inr h) = grind (arith, nat_tests)

pub above-apart : (a b : Place) → IsBelow a b → same_place b a ≡ false
above-apart a b h = apart_back a.0.0 b.0.0 a.1.0 b.1.0 h

beyond_by : (a b c d : ℕ) → (nat_lt a b || (nat_eq a b && nat_lt c d)) ≡ false → (nat_eq b a && nat_eq d c) ≡ false → (nat_lt b a || (nat_eq b a && nat_lt d c)) ≡ true
beyond_by a b c d low same = grind (arith, nat_tests)

-- a place that isn't below another and isn't that one is above it
beyond : (a b : Place) → is_below a b ≡ false → same_place a b ≡ false → IsBelow b a
beyond a b low same = IsBelow-is_below b a (beyond_by a.0.0 b.0.0 a.1.0 b.1.0 low same)

same_by : (a b : ℕ) → (nat_eq a a && nat_eq b b) ≡ true
same_by a b = grind (arith, nat_tests)

pub same_self : (p : Place) → same_place p p ≡ true
same_self p = same_by p.0.0 p.1.0

pub not_below : (a b : Place) → is_below a b ≡ true → same_place a b ≡ false
not_below a b low = below-apart a b (IsBelow-is_below a b low)

before_here_after : (i j : ℕ) → (j < i) ⊎ ((j ≡ i) ⊎ (i < j))
before_here_after i j = grind arith

less_or_same : (i j : ℕ) → i ≤ j → (i < j) ⊎ (i ≡ j)
less_or_same i j h = grind arith

module _ {C : Type 0} where
  -- of entries that rise, an earlier one is below a later one
  pub rises-at : (es : List (Entry C)) (i j : ℕ) (d : Entry C) → Rises (places_of es) → i < j → j < length es → IsBelow (slice_index_or es i d).place (slice_index_or es j d).place
  rises-at es i j d rises early within =
      let place : Entry C → Place = λ (e : Entry C). e.place in
      let long : length (places_of es) ≡ length es = length-map es place in
      subst (λ p. IsBelow p (slice_index_or es j d).place) (get_or-map place es i d)
      (subst (IsBelow (slice_index_or (places_of es) i d.place)) (get_or-map place es j d) (rises i j d.place early (omega arith)))

  by_cases : (es : List (Entry C)) (k : Place) (i j : ℕ) (d : Entry C) → Rises (places_of es) → (i < j) ⊎ (i ≡ j) → j < length es → is_below (slice_index_or es j d).place k ≡ true → is_below (slice_index_or es i d).place k ≡ true
  by_cases es k i j d rises (inl early) within low = is_below-true _ _ (below-trans _ _ _ (rises-at es i j d rises early within) (IsBelow-is_below _ _ low))
  by_cases es k i j d rises (inr same) within low = ap (λ n. is_below (slice_index_or es n d).place k) same ∙ low

  -- those below a place stand before the others
  pub rises-partitioned : (es : List (Entry C)) (k : Place) → Rises (places_of es) → IsPartitionedBy (λ (e : Entry C). is_below e.place k) es
  rises-partitioned es k rises = λ i j d early within low. by_cases es k i j d rises (less_or_same i j early) within low

  -- where an entry is below a place, so is each before it
  pub under_more : (es : List (Entry C)) (k : Place) (i : ℕ) (e : Entry C) → Rises (places_of es) → i < length es → e ≡ slice_index_or es i e → is_below e.place k ≡ true → AllWithin (λ (x : Entry C). is_below x.place k ≡ true) es 0 (i + 1)
  under_more es k i e rises within is low j d _ early =
      rises-partitioned es k rises j i d (omega arith) within (subst (λ (x : Entry C). is_below x.place k ≡ true) (is ∙ get_or_default es i e d within) low)

  -- and where one isn't, none behind it is
  pub over_more : (es : List (Entry C)) (k : Place) (i : ℕ) (e : Entry C) → Rises (places_of es) → i < length es → e ≡ slice_index_or es i e → is_below e.place k ≡ false → AllWithin (λ (x : Entry C). is_below x.place k ≡ false) es i (length es)
  over_more es k i e rises within is high j d late inside =
      elim (is_below (slice_index_or es j d).place k) as (λ b. is_below (slice_index_or es j d).place k ≡ b → b ≡ false) [
        | true ↦ λ low.
            let here : is_below (slice_index_or es i d).place k ≡ true = rises-partitioned es k rises i j d late inside low in
            let not : is_below (slice_index_or es i d).place k ≡ false = subst (λ (x : Entry C). is_below x.place k ≡ false) (is ∙ get_or_default es i e d within) high in
            cc
        | false ↦ λ _. refl
      ] refl

  pub rises-front : (es : List (Entry C)) (e : Entry C) → Rises (places_of (es ++ e ∷ [])) → Rises (places_of es)
  rises-front es e rises = λ i j d early within.
      let place : Entry C → Place = λ (e : Entry C). e.place in
      let whole : places_of (es ++ e ∷ []) ≡ places_of es ++ e.place ∷ [] = map-append place es (e ∷ []) in
      let more : length (places_of es ++ e.place ∷ []) ≡ length (places_of es) + 1 = length_push (places_of es) e.place in
      subst (λ p. IsBelow p (slice_index_or (places_of es) j d)) (get_or_append_left (places_of es) (e.place ∷ []) d i (omega arith))
      (subst (IsBelow (slice_index_or (places_of es ++ e.place ∷ []) i d)) (get_or_append_left (places_of es) (e.place ∷ []) d j within)
      (subst (λ ps. Rises ps) whole rises i j d early (omega arith)))

  rises_drop : (es : List (Entry C)) → Rises (places_of es) → Rises (places_of (drop 1 es))
  rises_drop [] rises = rises
  rises_drop (e ∷ es) rises = λ i j d early within. rises (suc i) (suc j) d (omega arith) (omega arith)

  full_drop : (es : List (Entry C)) → ((d : Entry C) → 0 < length es → IsSome (slice_index_or es (length es - 1) d).control) → (d : Entry C) → 0 < length (drop 1 es) → IsSome (slice_index_or (drop 1 es) (length (drop 1 es) - 1) d).control
  full_drop [] full d within = full d within
  full_drop (e ∷ []) full d within = absurd (omega arith)
  full_drop (e ∷ f ∷ fs) full d within =
      let last : length (e ∷ f ∷ fs) - 1 ≡ suc (length (f ∷ fs) - 1) = omega arith in
      subst (λ n. IsSome (slice_index_or (e ∷ f ∷ fs) n d).control) last (full d (omega arith))

  -- without its first entry a store is kept as before
  pub kept-drop : (es : List (Entry C)) → IsKept es → IsKept (drop 1 es)
  kept-drop es kept = record { rises = rises_drop es kept.rises; full = full_drop es kept.full }

  -- an entry joins at the end
  pub kept-push : (es : List (Entry C)) (e : Entry C) → IsKept es → ((j : ℕ) → j < length es → IsBelow (slice_index_or es j e).place e.place) → IsSome e.control → IsKept (es ++ e ∷ [])
  kept-push es e kept above full = record {
    rises =
        let place : Entry C → Place = λ (x : Entry C). x.place in
        let whole : places_of (es ++ e ∷ []) ≡ places_of es ++ e.place ∷ [] = map-append place es (e ∷ []) in
        let long : length (places_of es) ≡ length es = length-map es place in
        subst Rises (sym whole) (all_pairs_push IsBelow (places_of es) e.place kept.rises (λ j d within.
        let inside : j < length es = omega arith in
        subst (λ p. IsBelow p e.place) (sym (get_or-map_at place es j e d inside)) (above j inside)));
    full = λ d within.
        let more : length (es ++ e ∷ []) ≡ length es + 1 = length_push es e in
        let last : length (es ++ e ∷ []) - 1 ≡ length es = omega arith in
        subst (λ n. IsSome (slice_index_or (es ++ e ∷ []) n d).control) (sym last) (subst (λ (x : Entry C). IsSome x.control) (sym (get_or-append_seam es e [] d)) full);
  }

  -- all entries are below a place that is above all that is saved
  pub kept-below : (es : List (Entry C)) (p : Place) (d : Entry C) → IsKept es → ((k : Place) → IsSome (found es k) → IsBelow k p) → (j : ℕ) → j < length es → IsBelow (slice_index_or es j d).place p
  kept-below es p d kept above j within =
      let n = length es - 1 in
      let last = slice_index_or es n d in
      let there : found es last.place ≡ last.control = found-at es n d last.place (omega arith) (same_self last.place) (λ i early. below-apart _ _ (rises-at es i n d kept.rises early (omega arith))) in
      let low : IsBelow last.place p = above last.place (subst IsSome (sym there) (kept.full d (omega arith))) in
      elim (less_or_same j n (omega arith)) as (λ _. IsBelow (slice_index_or es j d).place p) [
        | inl early ↦ below-trans _ _ _ (rises-at es j n d kept.rises early (omega arith)) low
        | inr same ↦ subst (λ i. IsBelow (slice_index_or es i d).place p) (sym same) low
      ]

  -- where all entries are below a place, none has it
  pub absent-below : (es : List (Entry C)) (p : Place) → AllWithin (λ (e : Entry C). is_below e.place p ≡ true) es 0 (length es) → (j : ℕ) (d : Entry C) → j < length es → same_place (slice_index_or es j d).place p ≡ false
  absent-below es p low j d within = not_below _ p (low j d (omega arith) within)

  -- where the first entry that isn't below a place hasn't it, none has it
  pub absent-beyond : (es : List (Entry C)) (i : ℕ) (p : Place) (e : Entry C) → Rises (places_of es) → i < length es → e ≡ slice_index_or es i e → AllWithin (λ (x : Entry C). is_below x.place p ≡ true) es 0 i → AllWithin (λ (x : Entry C). is_below x.place p ≡ false) es i (length es) → same_place e.place p ≡ false → (j : ℕ) (d : Entry C) → j < length es → same_place (slice_index_or es j d).place p ≡ false
  absent-beyond es i p e rises inside is low rest other j d within =
      let here : slice_index_or es i d ≡ e = get_or_default es i d e inside ∙ sym is in
      let above : IsBelow p (slice_index_or es i d).place = subst (λ (x : Entry C). IsBelow p x.place) (sym here) (beyond e.place p (subst (λ (x : Entry C). is_below x.place p ≡ false) here (rest i d (omega arith) inside)) other) in
      elim (before_here_after i j) as (λ _. same_place (slice_index_or es j d).place p ≡ false) [
        | inl early ↦ not_below _ p (low j d (omega arith) early)
        | inr (inl same) ↦ subst (λ n. same_place (slice_index_or es n d).place p ≡ false) (sym same) (subst (λ (x : Entry C). same_place x.place p ≡ false) (sym here) other)
        | inr (inr late) ↦ above-apart p _ (below-trans _ _ _ above (rises-at es i j d rises late within))
      ]
