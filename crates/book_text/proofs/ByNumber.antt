-- The entries of a map, number after number.
use Rattle.std.proofs.Common.{◌≡◌, ℕ, zero, suc, ◌<◌, ◌≤◌, true, false, cond, nat_eq, List, [], ◌∷◌, ◌++◌, length, Option, Some, None, refl, sym, ap, subst, ◌∙◌, arith}
use Rattle.std.specs.Prelude.{nat_lt}
use Rattle.std.specs.List.{AllByRecursion, flat_map}
use Rattle.std.specs.Option.{option_map_or}
use Rattle.std.specs.Ordering.{nat_cmp}
use Rattle.std.specs.declared.cmp.Ordering.TheVariants.{Greater}
use Rattle.std.specs.Cmp.{nat_cmp_is, nat_cmp_total, nat_eq_equiv}
use Rattle.std.proofs.lemmas.Bool.{false≢true, eqb-true, ltb-true, ltb-false}
use Rattle.std.specs.FinMap as map
use Rattle.std.specs.FinMap.{FinMap, put, get-empty, entries-insert, len-empty, len-entries, same_map, nat_cmp-IsAntisymmetric}
use Rattle.std.specs.FinMap.Entries.{by_order}
use Rattle.std.proofs.lemmas.List.{append-nil}
use Rattle.std.proofs.lemmas.Grind.{flat_map-append}
use Rattle.language.proofs.Applying.{get_inserted}
use Rattle.commit_book.proofs.Keeping.Floors.{differs_too}
use Rattle.commit_book.proofs.Threads.Waiting.{get_removed}

module _ {X : Type 0} where
  -- the numbers below n that have a value, each with it
  abbrev pub pairs : (ℕ → Option X) → ℕ → List (ℕ × X)
  pairs f zero = []
  pairs f (suc n) = pairs f n ++ option_map_or (λ v. (n, v) ∷ []) (f n) []

  pub pairs_same : (f g : ℕ → Option X) (n : ℕ) → ((t : ℕ) → t < n → f t ≡ g t) → pairs f n ≡ pairs g n
  pairs_same f g zero h = refl
  pairs_same f g (suc n) h = ap (λ es. es ++ option_map_or (λ v. (n, v) ∷ []) (f n) []) (pairs_same f g n (λ t l. h t (omega arith))) ∙ ap (λ o. pairs g n ++ option_map_or (λ v. (n, v) ∷ []) o []) (h n (omega arith))

  all_below : (f : ℕ → Option X) (n k : ℕ) → n ≤ k → AllByRecursion (λ (e : ℕ × X). e.0 < k) (pairs f n)
  all_below f zero k h = tt
  all_below f (suc n) k h = joined (pairs f n) _ (all_below f n k (omega arith)) (last (f n))
    where
      joined : (es ds : List (ℕ × X)) → AllByRecursion (λ (e : ℕ × X). e.0 < k) es → AllByRecursion (λ (e : ℕ × X). e.0 < k) ds → AllByRecursion (λ (e : ℕ × X). e.0 < k) (es ++ ds)
      joined [] ds a b = b
      joined (e ∷ es) ds a b = (a.0, joined es ds a.1 b)

      last : (o : Option X) → AllByRecursion (λ (e : ℕ × X). e.0 < k) (option_map_or (λ v. (n, v) ∷ []) o [])
      last None = tt
      last (Some v) = (omega (arith, h), tt)

  put_behind : (k : ℕ) (v : X) (es : List (ℕ × X)) → AllByRecursion (λ (e : ℕ × X). e.0 < k) es → put nat_cmp k v es ≡ es ++ (k, v) ∷ []
  put_behind k v [] h = refl
  put_behind k v (e ∷ es) h = subst (λ r. by_order r ((k, v) ∷ e ∷ es) ((e.0, v) ∷ es) (e ∷ put nat_cmp k v es) ≡ (e ∷ es) ++ (k, v) ∷ []) (nat_cmp_is k e.0 Greater h.0) (ap (λ ds. e ∷ ds) (put_behind k v es h.1))

  no_entries : (es : List (ℕ × X)) → length es ≡ 0 → es ≡ []
  no_entries [] h = refl
  no_entries (e ∷ es) h = absurd (omega (arith, h))

  entries_none : (m : FinMap nat_cmp X) → ((t : ℕ) → map.get m t ≡ None) → map.entries m ≡ []
  entries_none m h =
      ap map.entries (same_map nat_cmp_total nat_cmp-IsAntisymmetric m map.empty (λ q. h q ∙ sym (get-empty nat_cmp q)))
      ∙ no_entries (map.entries (map.empty {R = nat_cmp})) (sym (len-entries map.empty) ∙ len-empty nat_cmp X)

  -- the entries of a map whose numbers are below n
  pub entries_below : (n : ℕ) (m : FinMap nat_cmp X) → ((t : ℕ) → n ≤ t → map.get m t ≡ None) → map.entries m ≡ pairs (map.get m) n
  entries_below zero m h = entries_none m (λ t. h t (omega arith))
  entries_below (suc n) m h =
      elim (map.get m n) as (λ o. map.get m n ≡ o → map.entries m ≡ pairs (map.get m) n ++ option_map_or (λ v. (n, v) ∷ []) o []) [
        | None ↦ λ at.
            let none : (t : ℕ) → n ≤ t → map.get m t ≡ None = λ t l.
            elim (nat_eq t n) as (λ b. nat_eq t n ≡ b → map.get m t ≡ None) [
              | true ↦ λ e. ap (map.get m) (eqb-true t n e) ∙ at
              | false ↦ λ e. h t (above t e l)
            ] refl
            in
            entries_below n m none ∙ sym (append-nil (pairs (map.get m) n))
        | (Some v) ↦ λ at.
            let less = map.remove m n in
            let below : (t : ℕ) → t < n → map.get less t ≡ map.get m t = λ t l. get_removed m n t ∙ ap (λ b. cond b None (map.get m t)) (differs_too t n l) in
            let none : (t : ℕ) → n ≤ t → map.get less t ≡ None = λ t l.
            elim (nat_eq t n) as (λ b. nat_eq t n ≡ b → map.get less t ≡ None) [
              | true ↦ λ e. get_removed m n t ∙ ap (λ b. cond b None (map.get m t)) e
              | false ↦ λ e. get_removed m n t ∙ ap (λ b. cond b None (map.get m t)) e ∙ h t (above t e l)
            ] refl
            in
            let back : (q : ℕ) → map.get (map.insert less n v) q ≡ map.get m q = λ q.
            elim (nat_eq q n) as (λ b. nat_eq q n ≡ b → map.get (map.insert less n v) q ≡ map.get m q) [
              | true ↦ λ e. get_inserted less n v q ∙ ap (λ b. cond b (Some v) (map.get less q)) e ∙ sym (ap (map.get m) (eqb-true q n e) ∙ at)
              | false ↦ λ e. get_inserted less n v q ∙ ap (λ b. cond b (Some v) (map.get less q)) e ∙ get_removed m n q ∙ ap (λ b. cond b None (map.get m q)) e
            ] refl
            in
            ap map.entries (sym (same_map nat_cmp_total nat_cmp-IsAntisymmetric (map.insert less n v) m back))
            ∙ entries-insert nat_cmp_total less n v
            ∙ ap (put nat_cmp n v) (entries_below n less none ∙ pairs_same (map.get less) (map.get m) n below)
            ∙ put_behind n v (pairs (map.get m) n) (all_below (map.get m) n n (omega arith))
      ] refl
    where
      upto_same : (t : ℕ) → n ≤ t → t ≤ n → t ≡ n
      upto_same t l k = omega (arith, l, k)

      above : (t : ℕ) → nat_eq t n ≡ false → n ≤ t → suc n ≤ t
      above t e l =
          elim (nat_lt n t) as (λ b. nat_lt n t ≡ b → suc n ≤ t) [
            | true ↦ λ k. ltb-true n t k
            | false ↦ λ k. absurd (false≢true (sym e ∙ ap (λ x. nat_eq x n) (upto_same t l (ltb-false n t k)) ∙ nat_eq_equiv.refl n))
          ] refl

-- what is said of each number below n that has a value, one after the other
abbrev pub told_upto : {X : Type 0} → (ℕ → X → List ℕ) → (ℕ → Option X) → ℕ → List ℕ
told_upto line f zero = []
told_upto line f (suc n) = told_upto line f n ++ option_map_or (line n) (f n) []

pub told_pairs : {X : Type 0} (line : ℕ → X → List ℕ) (f : ℕ → Option X) (n : ℕ) → flat_map (λ (e : ℕ × X). line e.0 e.1) (pairs f n) ≡ told_upto line f n
told_pairs line f zero = refl
told_pairs {X} line f (suc n) = flat_map-append (λ (e : ℕ × X). line e.0 e.1) (pairs f n) (option_map_or (λ v. (n, v) ∷ []) (f n) []) ∙ ap (λ text. text ++ flat_map (λ (e : ℕ × X). line e.0 e.1) (option_map_or (λ v. (n, v) ∷ []) (f n) [])) (told_pairs line f n) ∙ ap (λ text. told_upto line f n ++ text) (one (f n))
  where
    one : (o : Option X) → flat_map (λ (e : ℕ × X). line e.0 e.1) (option_map_or (λ v. (n, v) ∷ []) o []) ≡ option_map_or (line n) o []
    one None = refl
    one (Some v) = append-nil (line n v)
