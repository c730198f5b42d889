-- A sorted list of the keys of a map is what the map lists.
use Rattle.std.proofs.Common.{◌≡◌, ℕ, suc, ◌≤◌, Bool, true, false, cond, ◌&&◌, ◌||◌, nat_eq, List, [], ◌∷◌, length, get_or, map, Some, None, is_some, refl, sym, ap, subst, ◌∙◌, arith}
use Rattle.std.specs.Prelude.{T}
use Rattle.std.specs.List.{AllByRecursion, IsDistinct, list_any}
use Rattle.std.specs.List.Sorted.{IsStrictlySortedBy, IsNonDecreasing, IsNonDecreasingBy}
use Rattle.std.specs.Ordering.{nat_cmp, is_lt, is_eq, eq_by_cmp}
use Rattle.std.specs.declared.cmp.Ordering.{Ordering}
use Rattle.std.specs.declared.cmp.Ordering.TheVariants.{Less, Equal, Greater}
use Rattle.std.specs.Cmp.{nat_cmp_total, unsigned_tied}
use Rattle.std.specs.FinMap.{FinMap, empty, get-empty, keys, entries, entries_sorted, contains_key, contains_key-keys, nat_cmp-IsAntisymmetric}
use Rattle.std.specs.FinMap.Entries.{find, below_all, is_sorted, same_entries}
use Rattle.std.proofs.lemmas.Bool.{false≢true}
use Rattle.std.proofs.lemmas.List.{get_or-map}
use Rattle.std.proofs.lemmas.Map.Keys.{IsStrictlyIncreasing-from_distinct, sorted_from_strictly_increasing, sorted_head, sorted_tail}
use Rattle.stab_base.specs.declared.numbers.ThreadId.{ThreadId}
use Rattle.linked_lists.specs.Lists.{is_listed}
use Rattle.linked_lists.proofs.Leaving.{IsDistinct-nil}
use Rattle.reach_line.specs.Reached.{has, IsOnce}
use Rattle.restore.specs.Found.{numbers}

abbrev Entry : Type 0
Entry = ℕ × Unit {0}

abbrev key : Entry → ℕ
key e = e.0

-- the numbers as the keys of a map to nothing
abbrev bare : List ℕ → List Entry
bare [] = []
bare (x ∷ xs) = (x, tt) ∷ bare xs

keys-bare : (xs : List ℕ) → map key (bare xs) ≡ xs
keys-bare [] = refl
keys-bare (x ∷ xs) = ap (λ l. x ∷ l) (keys-bare xs)

found_bare : (q : ℕ) (xs : List ℕ) → find nat_cmp q (bare xs) ≡ cond (list_any (eq_by_cmp nat_cmp q) xs) (Some tt) None
found_bare q [] = refl
found_bare q (x ∷ xs) =
    elim (eq_by_cmp nat_cmp q x) as (λ b. cond b (Some tt) (find nat_cmp q (bare xs)) ≡ cond (b || list_any (eq_by_cmp nat_cmp q) xs) (Some tt) None) [
      | true ↦ refl
      | false ↦ found_bare q xs
    ]

module _ {X : Type 0} where
  below_bare : (k : ℕ) (es : List (ℕ × X)) → below_all nat_cmp k (bare (map (λ (e : ℕ × X). e.0) es)) ≡ below_all nat_cmp k es
  below_bare k [] = refl
  below_bare k (e ∷ es) = ap (λ b. is_lt (nat_cmp k e.0) && b) (below_bare k es)

  sorted_bare : (es : List (ℕ × X)) → is_sorted nat_cmp (bare (map (λ (e : ℕ × X). e.0) es)) ≡ is_sorted nat_cmp es
  sorted_bare [] = refl
  sorted_bare (e ∷ es) = ap (λ b. b && is_sorted nat_cmp (bare (map (λ (e : ℕ × X). e.0) es))) (below_bare e.0 es) ∙ ap (λ b. below_all nat_cmp e.0 es && b) (sorted_bare es)

below_rising : (k : ℕ) (xs : List ℕ) → AllByRecursion (λ y. nat_cmp k y ≡ Less) xs → below_all nat_cmp k (bare xs) ≡ true
below_rising k [] all = refl
below_rising k (x ∷ xs) all = ap (λ o. is_lt o && below_all nat_cmp k (bare xs)) all.0 ∙ below_rising k xs all.1

sorted_rising : (xs : List ℕ) → IsStrictlySortedBy nat_cmp xs → is_sorted nat_cmp (bare xs) ≡ true
sorted_rising [] rise = refl
sorted_rising (x ∷ xs) rise =
    ap (λ b. b && is_sorted nat_cmp (bare xs)) (below_rising x xs (sorted_head nat_cmp x xs rise)) ∙ sorted_rising xs (sorted_tail nat_cmp x xs rise)

tied_listed : (t : ℕ) (xs : List ℕ) → list_any (eq_by_cmp nat_cmp t) xs ≡ is_listed t xs
tied_listed t [] = refl
tied_listed t (x ∷ xs) = ap (λ b. b || list_any (eq_by_cmp nat_cmp t) xs) (unsigned_tied t x) ∙ ap (λ b. nat_eq t x || b) (tied_listed t xs)

module _ {X : Type 0} where
  -- whether a key is there says whether the map lists it
  pub listed_key : (m : FinMap nat_cmp X) (t : ℕ) → is_listed t (keys m) ≡ contains_key m t
  listed_key m t = sym (contains_key-keys m t ∙ tied_listed t (keys m))

  -- the keys of a map, in order and each once, are what it lists
  pub sorted_keys : (m : FinMap nat_cmp X) (xs : List ℕ) → IsNonDecreasing xs → IsDistinct nat_eq xs → ((t : ℕ) → is_listed t xs ≡ contains_key m t) → xs ≡ keys m
  sorted_keys m xs rise once listed =
      let first : T (is_sorted nat_cmp (bare xs)) = subst (λ b. T b) (sym (sorted_rising xs (sorted_from_strictly_increasing xs (IsStrictlyIncreasing-from_distinct xs rise once)))) tt in
      let second : T (is_sorted nat_cmp (bare (keys m))) = subst (λ b. T b) (sym (sorted_bare (entries m))) (entries_sorted m) in
      let alike : (q : ℕ) → find nat_cmp q (bare xs) ≡ find nat_cmp q (bare (keys m)) = λ q.
      found_bare q xs ∙ ap (λ b. cond b (Some tt) None) (tied_listed q xs ∙ listed q ∙ contains_key-keys m q) ∙ sym (found_bare q (keys m)) in
      sym (keys-bare xs) ∙ ap (map key) (same_entries nat_cmp nat_cmp_total nat_cmp-IsAntisymmetric (bare xs) (bare (keys m)) first second alike) ∙ keys-bare (keys m)

length-numbers : (ts : List ThreadId) → length (numbers ts) ≡ length ts
length-numbers [] = refl
length-numbers (t ∷ ts) = ap suc (length-numbers ts)

true_of : (b : Bool) → T b → b ≡ true
true_of true is = refl
true_of false is = absurd is

both_of : (a b : Bool) → (a && b) ≡ true → (a ≡ true) × (b ≡ true)
both_of true b is = (refl, is)
both_of false b is = absurd (false≢true is)

not_tied : (o : Ordering) → is_lt o ≡ true → is_eq o ≡ false
not_tied Less is = refl
not_tied Equal is = absurd (false≢true is)
not_tied Greater is = refl

not_same : (a b : ℕ) → is_lt (nat_cmp a b) ≡ true → nat_eq a b ≡ false
not_same a b less = sym (unsigned_tied a b) ∙ not_tied (nat_cmp a b) less

module _ {X : Type 0} where
  absent_above : (k : ℕ) (es : List (ℕ × X)) → below_all nat_cmp k es ≡ true → has k (map (λ (e : ℕ × X). e.0) es) ≡ false
  absent_above k [] is = refl
  absent_above k (e ∷ es) is =
      let parts = both_of (is_lt (nat_cmp k e.0)) (below_all nat_cmp k es) is in
      ap (λ b. b || has k (map (λ (e : ℕ × X). e.0) es)) (not_same k e.0 parts.0) ∙ absent_above k es parts.1

  once_sorted : (es : List (ℕ × X)) → is_sorted nat_cmp es ≡ true → IsOnce (map (λ (e : ℕ × X). e.0) es)
  once_sorted [] is = tt
  once_sorted (e ∷ es) is =
      let parts = both_of (below_all nat_cmp e.0 es) (is_sorted nat_cmp es) is in
      (absent_above e.0 es parts.0, once_sorted es parts.1)

  -- no key is listed twice
  pub once_keys : (m : FinMap nat_cmp X) → IsOnce (keys m)
  once_keys m = once_sorted (entries m) (true_of (is_sorted nat_cmp (entries m)) (entries_sorted m))

-- a map without entries has no keys
pub no_keys : (X : Type 0) → keys (empty {X = X} {R = nat_cmp}) ≡ []
no_keys X = sym (sorted_keys (empty {X = X} {R = nat_cmp}) [] (λ i j d low high. absurd (omega arith)) IsDistinct-nil (λ t. sym (ap is_some (get-empty nat_cmp t))))

-- threads that are sorted by their numbers
pub sorted_numbers : (ts : List ThreadId) → IsNonDecreasingBy (λ (t : ThreadId). t.0) ts → IsNonDecreasing (numbers ts)
sorted_numbers ts rise i j d low high =
    let long : length (numbers ts) ≡ length ts = length-numbers ts in
    let first : get_or (numbers ts) i d ≡ (get_or ts i (record { 0 = d })).0 = get_or-map (λ (t : ThreadId). t.0) ts i (record { 0 = d }) d (omega arith) in
    let second : get_or (numbers ts) j d ≡ (get_or ts j (record { 0 = d })).0 = get_or-map (λ (t : ThreadId). t.0) ts j (record { 0 = d }) d (omega arith) in
    let under : (get_or ts i (record { 0 = d })).0 ≤ (get_or ts j (record { 0 = d })).0 = rise i j (record { 0 = d }) low (omega arith) in
    omega arith
