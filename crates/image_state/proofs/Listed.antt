-- Lists whose numbers rise, as maps and sets.
use Rattle.std.proofs.Common.{◌≡◌, ℕ, zero, suc, ◌+◌, ◌-◌, ◌<◌, ◌≤◌, Bool, true, false, cond, T, List, [], ◌∷◌, refl, sym, ap, subst, ◌∙◌, arith}
use Rattle.std.specs.Prelude.{Some, None, Option, ◌||◌, ◌&&◌, is_some, nat_eq, nat_lt}
use Rattle.std.specs.List.{list_any}
use Rattle.std.specs.Ordering.{is_lt, nat_cmp}
use Rattle.std.specs.declared.cmp.Ordering.TheVariants.{Less, Equal, Greater}
use Rattle.std.specs.FinMap as map
use Rattle.std.specs.FinMap.{FinMap, entries, entries-from_sorted, entries_sorted, find, from_entries, from_sorted, get-entries, get-from_entries, get-from_sorted, is_sorted, nat_cmp-IsAntisymmetric, same_map}
use Rattle.std.specs.FinSet as set
use Rattle.std.specs.FinSet.{FinSet, contains-from_list_nat, from_list, same_set}
use Rattle.std.proofs.lemmas.Bool.{and_from, and_parts, false≢true, eqb-true, eqb-false, ne_eqb, eq-eqb}
use Rattle.std.proofs.lemmas.Bool.Decides.{nat_tests}
use Rattle.std.proofs.lemmas.Cmp.{nat_cmp_total}
use Rattle.image_text.specs.Rising.{IsRising, those}

less_so : (x y : ℕ) → x < y → is_lt (nat_cmp x y) ≡ true
less_so x y lt =
    let first : nat_lt x y ≡ true = grind (arith, nat_tests) in
    ap (λ b. is_lt (cond b Less (cond (nat_eq x y) Equal Greater))) first

T_so : (b : Bool) → b ≡ true → T b
T_so true h = tt
T_so false h = absurd (false≢true h)

module _ {X : Type 0} where
  lower : (n m : ℕ) (es : List (ℕ × X)) → n ≤ m → IsRising m es → IsRising n es
  lower n m [] le h = tt
  lower n m (e ∷ es) le h = (let up = h.0 in omega arith, h.1)

  -- entries whose numbers rise are sorted
  sorted_behind : (e : ℕ × X) (es : List (ℕ × X)) → IsRising e.0 es → is_sorted nat_cmp (e ∷ es) ≡ true
  sorted_behind e [] h = refl
  sorted_behind e (f ∷ es) h =
      let up : e.0 < f.0 = h.0 in
      let others = and_parts _ (is_sorted nat_cmp es) (sorted_behind e es (lower e.0 f.0 es (omega arith) h.1)) in
      and_from _ (is_sorted nat_cmp (f ∷ es)) (and_from (is_lt (nat_cmp e.0 f.0)) _ (less_so e.0 f.0 up) others.0) (sorted_behind f es h.1)

  rising_sorted : (n : ℕ) (es : List (ℕ × X)) → IsRising n es → T (is_sorted nat_cmp es)
  rising_sorted n [] h = tt
  rising_sorted n (e ∷ es) h = T_so (is_sorted nat_cmp (e ∷ es)) (sorted_behind e es h.1)

  -- a map of entries whose numbers rise has these entries
  pub entries-rising : (n : ℕ) (es : List (ℕ × X)) → IsRising n es → entries (from_entries {R = nat_cmp} es) ≡ es
  entries-rising n es h =
      let sorted = rising_sorted n es h in
      let same : from_entries {R = nat_cmp} es ≡ from_sorted {R = nat_cmp} es =
      same_map nat_cmp_total nat_cmp-IsAntisymmetric _ _ (λ q. get-from_entries nat_cmp_total es q ∙ sym (get-from_sorted nat_cmp es q sorted)) in
      ap entries same ∙ entries-from_sorted nat_cmp es sorted

  -- the map of a map's entries is the map
  pub from_entries-entries : (m : FinMap nat_cmp X) → from_entries (entries m) ≡ m
  from_entries-entries m = same_map nat_cmp_total nat_cmp-IsAntisymmetric _ _ (λ q. get-from_entries nat_cmp_total (entries m) q ∙ sym (get-entries m q))

-- numbers from above this one on
abbrev pub RiseFrom : ℕ → List ℕ → Type 0
RiseFrom n [] = Unit {0}
RiseFrom n (k ∷ ks) = (n ≤ k) × RiseFrom (suc k) ks

among_low : (n k : ℕ) (ks : List ℕ) → RiseFrom n ks → k < n → list_any (λ y. nat_eq y k) ks ≡ false
among_low n k [] h lt = refl
among_low n k (j ∷ ks) h lt =
    let first : nat_eq j k ≡ false = ne_eqb j k (λ same. let up = h.0 in omega arith) in
    ap (λ b. b || list_any (λ y. nat_eq y k) ks) first ∙ among_low (suc j) k ks h.1 (let up = h.0 in omega arith)

or_right : (a b : Bool) → b ≡ true → (a || b) ≡ true
or_right true b h = refl
or_right false b h = h

-- of numbers that rise, those from one up to another are all of them
pub those_are : (has : ℕ → Bool) (a n : ℕ) (ks : List ℕ) → RiseFrom a ks → ((k : ℕ) → list_any (λ y. nat_eq y k) ks ≡ true → k < a + n) → ((k : ℕ) → a ≤ k → has k ≡ list_any (λ y. nat_eq y k) ks) → those has a n ≡ ks
those_are has a zero [] h below is = refl
those_are has a zero (k ∷ ks) h below is =
    absurd (let here : nat_eq k k ≡ true = eq-eqb k k refl in let lt = below k (ap (λ b. b || list_any (λ y. nat_eq y k) ks) here) in let up = h.0 in omega arith)
those_are has a (suc n) [] h below is =
    ap (λ b. cond b (a ∷ those has (suc a) n) (those has (suc a) n)) (is a (omega arith))
    ∙ those_are has (suc a) n [] tt (λ k there. absurd (false≢true there)) (λ k le. is k (omega arith))
those_are has a (suc n) (k ∷ ks) h below given =
    elim (nat_eq k a) as (λ b. nat_eq k a ≡ b → those has a (suc n) ≡ k ∷ ks) [
      | true ↦ λ is.
          let same : k ≡ a = eqb-true k a is in
          let here : has a ≡ true = given a (omega arith) ∙ ap (λ b. b || list_any (λ y. nat_eq y a) ks) is in
          ap (λ b. cond b (a ∷ those has (suc a) n) (those has (suc a) n)) here
          ∙ ap (λ (js : List ℕ). a ∷ js)
          (those_are has (suc a) n ks (subst (λ (m : ℕ). RiseFrom (suc m) ks) same h.1)
          (λ j there. let lt = below j (or_right (nat_eq k j) (list_any (λ y. nat_eq y j) ks) there) in omega arith)
          (λ j le. given j (omega arith) ∙ ap (λ b. b || list_any (λ y. nat_eq y j) ks) (ne_eqb k j (λ no. omega arith))))
          ∙ ap (λ (m : ℕ). m ∷ ks) (sym same)
      | false ↦ λ is.
          let other : k ≡ a → ⊥ = eqb-false k a is in
          let up : a ≤ k = h.0 in
          let above : suc a ≤ k = omega (arith, other) in
          let none : has a ≡ false = given a (omega arith) ∙ ap (λ b. b || list_any (λ y. nat_eq y a) ks) is ∙ among_low (suc k) a ks h.1 (omega arith) in
          ap (λ b. cond b (a ∷ those has (suc a) n) (those has (suc a) n)) none
          ∙ those_are has (suc a) n (k ∷ ks) (above, h.1) (λ j there. let lt = below j there in omega arith) (λ j le. given j (omega arith))
    ] refl
