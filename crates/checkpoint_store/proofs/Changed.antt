-- What entries have after each change of theirs.
use Rattle.std.proofs.Common.{◌≡◌, ◌≢◌, ◌⊎◌, inl, inr, ℕ, ◌+◌, ◌<◌, ◌≤◌, Bool, true, false, cond, ◌&&◌, nat_eq, nat_lt, List, [], ◌∷◌, ◌++◌, length, drop, Option, Some, None, is_some, option_to_list, refl, sym, ap, subst, ◌∙◌, arith}
use Rattle.std.specs.List.{slice_index_or, slice_set, AllWithin}
use Rattle.std.proofs.Math.ListN.{get_or-map}
use Rattle.std.proofs.Math.Seq.{map-set_same}
use Rattle.std.proofs.lemmas.Bool.Decides.{nat_tests}
use Rattle.std.proofs.lemmas.List.{get_or_default, get_or-set_same}
use Rattle.std.proofs.lemmas.List.Elements.{AllWithin-set, AllWithin-more}
use Rattle.stab_base.specs.declared.numbers.Seq.{Seq}
use Rattle.checkpoint_store.specs.declared.entries.Entry.{Entry}
use Rattle.checkpoint_store.specs.Saved.{Place, IsBelow, same_place, before, at}
use Rattle.checkpoint_store.specs.Layout.{places_of, found, Rises, IsKept}
use Rattle.checkpoint_store.proofs.Found.{found-none, found-set, found-hole, found-drop}
use Rattle.checkpoint_store.proofs.Order.{rises-at, rises-front, kept-drop, below-apart}

pub not_some : {T : Type 0} (o : Option T) → is_some o ≡ false → o ≡ None
not_some None is = refl
not_some (Some x) is = cc

late_by : (a b c d q : ℕ) → q ≤ a → (nat_eq c a && nat_eq d b) ≡ true → nat_lt c q ≡ true → ⊥
late_by a b c d q late same low = absurd (grind (arith, nat_tests))

at_by : (a b c d q : ℕ) → a ≡ q → (nat_eq c a && nat_eq d b) ≡ true → nat_eq c q ≡ true
at_by a b c d q here same = grind (arith, nat_tests)

same_event : (a b c d q : ℕ) → (nat_eq c a && nat_eq d b) ≡ true → nat_eq c q ≡ true → a ≡ q
same_event a b c d q same here = grind (arith, nat_tests)

lt_by : (a q : ℕ) → nat_lt a q ≡ true → a < q
lt_by a q h = grind (arith, nat_tests)

ge_by : (a q : ℕ) → nat_lt a q ≡ false → q ≤ a
ge_by a q h = grind (arith, nat_tests)

first_by : (a b c d : ℕ) → (nat_eq c a && nat_eq d b) ≡ true → a ≡ c
first_by a b c d same = grind (arith, nat_tests)

second_by : (a b c d : ℕ) → (nat_eq c a && nat_eq d b) ≡ true → b ≡ d
second_by a b c d same = grind (arith, nat_tests)

-- the test of places finds them equal
pub same-place : (a b : Place) → same_place a b ≡ true → a ≡ b
same-place a b same =
    let event = first_by a.0.0 a.1.0 b.0.0 b.1.0 same in
    let thread = second_by a.0.0 a.1.0 b.0.0 b.1.0 same in
    λ i. (record { 0 = event i }, record { 0 = thread i })

first_not_above : (a b : Place) → IsBelow a b → a.0.0 ≤ b.0.0
first_not_above a b (inl h) = omega arith
first_not_above a b (inr h) = omega (arith, h.0)

less_or_same : (i j : ℕ) → i ≤ j → (i < j) ⊎ (i ≡ j)
less_or_same i j h = grind arith

split_at : (i k j : ℕ) → (j < i) ⊎ (((i ≤ j) × (j < k)) ⊎ (k ≤ j))
split_at i k j = grind arith

module _ {C : Type 0} where
  -- what a change leaves that takes where b holds, until nothing is left there
  pub taken_where : (b : Bool) (x y : Option C) → (b ≡ true → x ≡ None) → cond b None x ≡ cond b None y → x ≡ cond b None y
  taken_where true x y none same = none refl
  taken_where false x y none same = same

  -- the first entry is popped, which is before q
  pub pop-before : (es fs : List (Entry C)) (e : Entry C) (q : Seq) → fs ≡ drop 1 es → 0 < length es → e ≡ slice_index_or es 0 e → e.place.0.0 < q.0 → IsKept es → ((k : Place) → cond (before q k) None (found fs k) ≡ cond (before q k) None (found es k)) × IsKept fs
  pop-before es fs e q is some first low kept = (λ k. ap (λ (xs : List (Entry C)). cond (before q k) None (found xs k)) is ∙ found-drop es e q k some first low, subst IsKept (sym is) (kept-drop es kept))

  from_first : (es : List (Entry C)) (e : Entry C) → Rises (places_of es) → e ≡ slice_index_or es 0 e → (j : ℕ) (d : Entry C) → j < length es → e.place.0.0 ≤ (slice_index_or es j d).place.0.0
  from_first es e rises first j d within =
      let head : slice_index_or es 0 d ≡ e = get_or_default es 0 d e (omega arith) ∙ sym first in
      elim (less_or_same 0 j (omega arith)) as (λ _. e.place.0.0 ≤ (slice_index_or es j d).place.0.0) [
        | inl early ↦ subst (λ (x : Entry C). x.place.0.0 ≤ (slice_index_or es j d).place.0.0) head (first_not_above _ _ (rises-at es 0 j d rises early within))
        | inr same ↦ subst (λ n. e.place.0.0 ≤ (slice_index_or es n d).place.0.0) same (subst (λ (x : Entry C). e.place.0.0 ≤ x.place.0.0) (sym head) (omega arith))
      ]

  -- where the first entry isn't before q, nothing is
  pub none-before : (es : List (Entry C)) (e : Entry C) (q : Seq) (k : Place) → IsKept es → e ≡ slice_index_or es 0 e → q.0 ≤ e.place.0.0 → before q k ≡ true → found es k ≡ None
  none-before es e q k kept first late early = found-none es k (λ j d within same.
      let p = (slice_index_or es j d).place in
      let high : q.0 ≤ p.0.0 = omega (arith, from_first es e kept.rises first j d within) in
      absurd (late_by p.0.0 p.1.0 k.0.0 k.1.0 q.0 high same early))

  -- a hole is popped from the end
  pub pop-hole : (es fs : List (Entry C)) (r : Option (Entry C)) (h : Entry C) → es ≡ fs ++ option_to_list r → r ≡ Some h → h.control ≡ None → Rises (places_of es) → ((k : Place) → found fs k ≡ found es k) × Rises (places_of fs)
  pop-hole es fs r h is some hole rises =
      let whole : es ≡ fs ++ h ∷ [] = is ∙ ap (λ o. fs ++ option_to_list o) some in
      (λ k. sym (ap (λ (xs : List (Entry C)). found xs k) whole ∙ found-hole fs h k hole), rises-front fs h (subst (λ (xs : List (Entry C)). Rises (places_of xs)) whole rises))

  -- an entry with another control stands at its place
  pub places-set : (es : List (Entry C)) (i : ℕ) (e h : Entry C) → i < length es → e ≡ slice_index_or es i e → h.place ≡ e.place → places_of (slice_set es i h) ≡ places_of es
  places-set es i e h within is same = map-set_same (λ (x : Entry C). x.place) es i h e (same ∙ ap (λ (x : Entry C). x.place) is)

  -- the control of an entry is taken out
  pub found-emptied : (es : List (Entry C)) (i : ℕ) (e h : Entry C) (k : Place) → Rises (places_of es) → i < length es → e ≡ slice_index_or es i e → h.place ≡ e.place → found (slice_set es i h) k ≡ cond (same_place h.place k) h.control (found es k)
  found-emptied es i e h k rises within is same =
      let here : (slice_index_or es i h).place ≡ h.place = ap (λ (x : Entry C). x.place) (get_or_default es i h e within ∙ sym is) ∙ sym same in
      found-set es i h k within (sym here) (λ j early. subst (λ p. same_place (slice_index_or es j h).place p ≡ false) here (below-apart _ _ (rises-at es j i h rises early within)))

  place_same : (es fs : List (Entry C)) → places_of es ≡ places_of fs → (j : ℕ) (d : Entry C) → (slice_index_or es j d).place ≡ (slice_index_or fs j d).place
  place_same es fs places j d =
      let place : Entry C → Place = λ (e : Entry C). e.place in
      sym (get_or-map place es j d) ∙ ap (λ ps. slice_index_or ps j d.place) places ∙ get_or-map place fs j d

  emptied_by : (b c : Bool) (y : Option C) → (c ≡ true → b ≡ true) → cond b None (cond c None y) ≡ cond b None y
  emptied_by true c y so = refl
  emptied_by false true y so = let never = so refl in cc
  emptied_by false false y so = refl

  -- an entry of the event q is emptied: nothing changes elsewhere
  pub emptied-elsewhere : (es : List (Entry C)) (i : ℕ) (e h : Entry C) (q : Seq) (k : Place) → Rises (places_of es) → i < length es → e ≡ slice_index_or es i e → h.place ≡ e.place → h.control ≡ None → e.place.0.0 ≡ q.0 → cond (at q k) None (found (slice_set es i h) k) ≡ cond (at q k) None (found es k)
  emptied-elsewhere es i e h q k rises within is same hole event =
      ap (cond (at q k) None) (found-emptied es i e h k rises within is same ∙ ap (λ o. cond (same_place h.place k) o (found es k)) hole)
      ∙ emptied_by (at q k) (same_place h.place k) (found es k) (λ here. at_by h.place.0.0 h.place.1.0 k.0.0 k.1.0 q.0 (ap (λ (p : Place). p.0.0) same ∙ event) here)

  -- one hole more
  pub holes-more : (es : List (Entry C)) (i k : ℕ) (h : Entry C) → k < length es → h.control ≡ None → AllWithin (λ (e : Entry C). e.control ≡ None) es i k → AllWithin (λ (e : Entry C). e.control ≡ None) (slice_set es k h) i (k + 1)
  holes-more es i k h within hole holes =
      AllWithin-more (λ (e : Entry C). e.control ≡ None) (slice_set es k h) i k
      (AllWithin-set (λ (e : Entry C). e.control ≡ None) es i k k h within hole holes)
      (λ d. ap (λ (e : Entry C). e.control) (get_or-set_same es k h d within) ∙ hole)

  -- where the entries of the event q are holes, nothing is found at it
  pub none-at : (es fs : List (Entry C)) (i k : ℕ) (q : Seq) (x : Place) → places_of es ≡ places_of fs → AllWithin (λ (e : Entry C). before q e.place ≡ true) fs 0 i → AllWithin (λ (e : Entry C). e.control ≡ None) es i k → AllWithin (λ (e : Entry C). q.0 < e.place.0.0) es k (length es) → at q x ≡ true → found es x ≡ None
  none-at es fs i k q x places low holes high here = found-none es x (λ j d within same.
      let p = (slice_index_or es j d).place in
      let event : p.0.0 ≡ q.0 = same_event p.0.0 p.1.0 x.0.0 x.1.0 q.0 same here in
      elim (split_at i k j) as (λ _. (slice_index_or es j d).control ≡ None) [
        | inl early ↦
            let before_q : before q p ≡ true = subst (λ y. before q y ≡ true) (sym (place_same es fs places j d)) (low j d (omega arith) early) in
            absurd (omega (arith, lt_by p.0.0 q.0 before_q))
        | inr (inl inside) ↦ holes j d inside.0 inside.1
        | inr (inr late) ↦ absurd (omega (arith, high j d late within))
      ])

  -- where an entry is after the event q, so are those behind it
  pub after-from : (es fs : List (Entry C)) (i k : ℕ) (e : Entry C) (q : Seq) → places_of es ≡ places_of fs → Rises (places_of es) → i ≤ k → k < length es → length es ≡ length fs → e ≡ slice_index_or es k e → AllWithin (λ (x : Entry C). before q x.place ≡ false) fs i (length fs) → e.place.0.0 ≢ q.0 → AllWithin (λ (x : Entry C). q.0 < x.place.0.0) es k (length es)
  after-from es fs i k e q places rises from within long is late other = λ j d low inside.
      let here : slice_index_or es k d ≡ e = get_or_default es k d e within ∙ sym is in
      let from_q : before q (slice_index_or es k d).place ≡ false = subst (λ p. before q p ≡ false) (sym (place_same es fs places k d)) (late k d from (omega arith)) in
      let at_least : q.0 ≤ (slice_index_or es k d).place.0.0 = ge_by _ q.0 from_q in
      let apart : (slice_index_or es k d).place.0.0 ≢ q.0 = subst (λ (x : Entry C). x.place.0.0 ≢ q.0) (sym here) other in
      elim (less_or_same k j low) as (λ _. q.0 < (slice_index_or es j d).place.0.0) [
        | inl early ↦ omega (arith, first_not_above _ _ (rises-at es k j d rises early inside))
        | inr same ↦ subst (λ n. q.0 < (slice_index_or es n d).place.0.0) same (omega arith)
      ]
