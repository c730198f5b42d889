-- What is left of a map behind a number, entry by entry.
use Rattle.std.proofs.Common.{◌≡◌, ◌≢◌, ℕ, zero, suc, ◌+◌, ◌<◌, ◌≤◌, Bool, true, false, cond, T, List, [], ◌∷◌, length, get_or, drop, add-one, refl, sym, ap, subst, ◌∙◌, arith}
use Rattle.std.specs.Prelude.{Some, None, is_some, nat_eq, nat_lt}
use Rattle.std.specs.Ordering.{nat_cmp, is_lt}
use Rattle.std.specs.declared.cmp.Ordering.TheVariants.{Less, Equal, Greater}
use Rattle.std.specs.Cmp.{unsigned_tied}
use Rattle.std.specs.FinMap as map
use Rattle.std.specs.FinMap.{FinMap, find, is_sorted, entries, entries_sorted, get-entries, get-from_entries, from_entries}
use Rattle.std.proofs.lemmas.Bool.{false≢true, eqb-true, eqb-false, ltb-true, ne_eqb, eq-eqb, and_parts}
use Rattle.std.proofs.lemmas.Cmp.{nat_cmp_total}
use Rattle.language.specs.Above.{IsLeastAbove}
use Rattle.image_text.specs.Rising.{IsRising}

-- the entries that are left have the numbers above this one
pub record IsLeft {X : Type 0} (m : FinMap nat_cmp X) (n : ℕ) (left : List (ℕ × X)) : Type 0 where
  pub rising : IsRising n left
  pub finds : (k : ℕ) → n < k → find nat_cmp k left ≡ map.get m k

T_true : (b : Bool) → T b → b ≡ true
T_true true h = refl
T_true false h = absurd h

less_is : (x y : ℕ) → is_lt (nat_cmp x y) ≡ true → x < y
less_is x y h =
    elim (nat_lt x y) as (λ b. nat_lt x y ≡ b → is_lt (cond b Less (cond (nat_eq x y) Equal Greater)) ≡ true → x < y) [
      | true ↦ λ is _. ltb-true x y is
      | false ↦ λ is k.
          (elim (nat_eq x y) as (λ b. is_lt (cond b Equal Greater) ≡ true → x < y) [
            | true ↦ λ no. absurd (false≢true no)
            | false ↦ λ no. absurd (false≢true no)
          ]) k
    ] refl h

module _ {X : Type 0} where
  found_first : (k : ℕ) (x : X) (es : List (ℕ × X)) → find nat_cmp k ((k, x) ∷ es) ≡ Some x
  found_first k x es = ap (λ b. cond b (Some x) (find nat_cmp k es)) (unsigned_tied k k ∙ eq-eqb k k refl)

  found_later : (k h : ℕ) (x : X) (es : List (ℕ × X)) → nat_eq k h ≡ false → find nat_cmp k ((h, x) ∷ es) ≡ find nat_cmp k es
  found_later k h x es other = ap (λ b. cond b (Some x) (find nat_cmp k es)) (unsigned_tied k h ∙ other)

  -- what is at most a number isn't found above it
  found_above : (n k : ℕ) (es : List (ℕ × X)) → IsRising n es → k ≤ n → find nat_cmp k es ≡ None
  found_above n k [] rising low = refl
  found_above n k (e ∷ es) rising low =
      let first = rising.0 in
      found_later k e.0 e.1 es (ne_eqb k e.0 (λ same. omega arith)) ∙ found_above e.0 k es rising.1 (omega arith)

  rising_from : (n : ℕ) (es : List (ℕ × X)) → is_sorted nat_cmp es ≡ true → ((k : ℕ) (x : X) (rest : List (ℕ × X)) → es ≡ (k, x) ∷ rest → n < k) → IsRising n es
  rising_from n [] sorted first = tt
  rising_from n (e ∷ []) sorted first = (first e.0 e.1 [] refl, tt)
  rising_from n (e ∷ f ∷ es) sorted first =
      let parts = and_parts _ (is_sorted nat_cmp (f ∷ es)) sorted in
      let less : e.0 < f.0 = less_is e.0 f.0 (and_parts (is_lt (nat_cmp e.0 f.0)) _ parts.0).0 in
      (first e.0 e.1 (f ∷ es) refl, rising_from e.0 (f ∷ es) parts.1 (λ k x rest is. let same : (k, x) ≡ f = cc in subst (λ (p : ℕ × X). e.0 < p.0) (sym same) less))

  -- a number that is found isn't the one that isn't
  not_none : (k : ℕ) (x : X) (es rest : List (ℕ × X)) → is_some (find nat_cmp 0 es) ≡ false → es ≡ (k, x) ∷ rest → 0 < k
  not_none zero x es rest none is = absurd (false≢true (sym none ∙ ap (λ (l : List (ℕ × X)). is_some (find nat_cmp 0 l)) is ∙ ap is_some (found_first 0 x rest)))
  not_none (suc k) x es rest none is = omega arith

  -- at first all entries are left
  pub all_left : (m : FinMap nat_cmp X) → map.contains_key m 0 ≡ false → IsLeft m 0 (entries m)
  all_left m none = record {
    rising = rising_from 0 (entries m) (T_true _ (entries_sorted m)) (λ k x rest is. not_none k x (entries m) rest (ap is_some (sym (get-entries m 0)) ∙ none) is);
    finds = λ k lt. sym (get-entries m k);
  }

  -- all entries of a list whose numbers rise
  pub listed_left : (es : List (ℕ × X)) → IsRising 0 es → IsLeft (from_entries es) 0 es
  listed_left es rising = record { rising = rising; finds = λ k lt. sym (get-from_entries nat_cmp_total es k) }

  -- where none is above, nothing is left
  pub none_left : (m : FinMap nat_cmp X) (n : ℕ) (left : List (ℕ × X)) → IsLeft m n left → IsLeastAbove (map.contains_key m) n None → left ≡ []
  none_left m n [] h none = refl
  none_left m n (e ∷ es) h none =
      let there : is_some (map.get m e.0) ≡ true = ap is_some (sym (h.finds e.0 h.rising.0) ∙ found_first e.0 e.1 es) in
      absurd (false≢true (sym (none e.0 h.rising.0) ∙ there))

  -- the least number above is the first that is left, with what the map has there
  pub record IsNextOf (m : FinMap nat_cmp X) (k : ℕ) (x : X) (left : List (ℕ × X)) : Type 0 where
    pub rest : List (ℕ × X)
    pub first : left ≡ (k, x) ∷ rest
    pub later : IsLeft m k rest

  pub next_left : (m : FinMap nat_cmp X) (n k : ℕ) (x : X) (left : List (ℕ × X)) → IsLeft m n left → IsLeastAbove (map.contains_key m) n (Some k) → map.get m k ≡ Some x → IsNextOf m k x left
  next_left m n k x [] h least at = absurd (let no : None ≡ Some x = h.finds k least.0 ∙ at in cc)
  next_left m n k x (e ∷ es) h least at =
      let there : is_some (map.get m e.0) ≡ true = ap is_some (sym (h.finds e.0 h.rising.0) ∙ found_first e.0 e.1 es) in
      let low : k ≤ e.0 = least.2 e.0 h.rising.0 there in
      elim (nat_eq k e.0) as (λ b. nat_eq k e.0 ≡ b → IsNextOf m k x (e ∷ es)) [
        | true ↦ λ is.
            let same : k ≡ e.0 = eqb-true k e.0 is in
            let value : Some e.1 ≡ Some x = sym (found_first e.0 e.1 es) ∙ h.finds e.0 h.rising.0 ∙ ap (map.get m) (sym same) ∙ at in
            let this : e.1 ≡ x = cc in
            record {
              rest = es;
              first = ap (λ (p : ℕ × X). p ∷ es) (let both : (e.0, e.1) ≡ (k, x) = cc in both);
              later = record {
                rising = subst (λ (j : ℕ). IsRising j es) (sym same) h.rising.1;
                finds = λ j lt. sym (found_later j e.0 e.1 es (ne_eqb j e.0 (λ is. omega arith))) ∙ h.finds j (omega (arith, least.0));
              };
            }
        | false ↦ λ is.
            let other : k < e.0 = (let no : k ≢ e.0 = eqb-false k e.0 is in omega arith) in
            let none : find nat_cmp k (e ∷ es) ≡ None = found_later k e.0 e.1 es is ∙ found_above e.0 k es h.rising.1 low in
            absurd (let no : None ≡ Some x = sym none ∙ h.finds k least.0 ∙ at in cc)
      ] refl

-- what is dropped up to an element
pub record IsDropped {A : Type 0} (xs : List A) (i : ℕ) (x : A) (rest : List A) : Type 0 where
  pub within : i < length xs
  pub at : (d : A) → get_or xs i d ≡ x
  pub behind : rest ≡ drop (suc i) xs

pub dropped : {A : Type 0} (xs : List A) (i : ℕ) (x : A) (rest : List A) → drop i xs ≡ x ∷ rest → IsDropped xs i x rest
dropped [] zero x rest e = absurd (let no : [] ≡ x ∷ rest = e in cc)
dropped [] (suc i) x rest e = absurd (let no : [] ≡ x ∷ rest = e in cc)
dropped (y ∷ xs) zero x rest e = record { within = omega arith; at = λ d. let this : y ≡ x = cc in this; behind = let that : xs ≡ rest = cc in sym that }
dropped (y ∷ xs) (suc i) x rest e =
    let h = dropped xs i x rest e in
    record { within = omega (arith, h.within); at = h.at; behind = h.behind }

-- the list has this number next, with what the map of the list has there
pub record IsListed {X : Type 0} (es : List (ℕ × X)) (i t : ℕ) : Type 0 where
  pub value : X
  pub within : i < length es
  pub at : (d : ℕ × X) → get_or es i d ≡ (t, value)
  pub holds : map.get (from_entries {R = nat_cmp} es) t ≡ Some value
  pub later : IsLeft (from_entries es) t (drop (i + 1) es)

-- the next number of a map is the next of a list that has the same numbers
pub next_listed : {X Y : Type 0} (es : List (ℕ × X)) (m : FinMap nat_cmp Y) (i n t : ℕ) → IsLeft (from_entries es) n (drop i es) → ((k : ℕ) → map.contains_key (from_entries {R = nat_cmp} es) k ≡ map.contains_key m k)
    → IsLeastAbove (map.contains_key m) n (Some t) → IsListed es i t
next_listed {X} es m i n t h same least =
    elim (map.get (from_entries {R = nat_cmp} es) t) as (λ o. map.get (from_entries {R = nat_cmp} es) t ≡ o → IsListed es i t) [
      | (Some x) ↦ λ is.
          let next : IsNextOf (from_entries es) t x (drop i es) = next_left (from_entries es) n t x (drop i es) h (least.0, same t ∙ least.1, λ k lt here. least.2 k lt (sym (same k) ∙ here)) is in
          let d = dropped es i (t, x) next.rest next.first in
          record { value = x; within = d.within; at = d.at; holds = is; later = subst (IsLeft (from_entries es) t) (d.behind ∙ ap (λ k. drop k es) (sym (add-one i))) next.later }
      | None ↦ λ is. absurd (false≢true (sym (ap is_some is) ∙ same t ∙ least.1))
    ] refl
