-- The map of what stands in a list, by number.
use Rattle.std.proofs.Common.{◌≡◌, ◌≢◌, ℕ, suc, zero, ◌+◌, ◌≤◌, ◌<◌, Bool, true, false, cond, nat_eq, List, [], ◌∷◌, ◌++◌, length, get_or, set, Option, Some, None, IsSome, is_some, refl, sym, ap, ◌∙◌, subst, arith, add-one}
use Rattle.std.specs.Ordering.{nat_cmp}
use Rattle.std.specs.Cmp.{nat_cmp_total}
use Rattle.std.specs.FinMap.{FinMap, get, insert, remove, same_map, nat_cmp-IsAntisymmetric}
use Rattle.std.proofs.lemmas.Bool.Decides.{nat_tests, Decides-eqb}
use Rattle.std.proofs.lemmas.List.{get_or-set_same, get_or-set_other, get_or_past}
use Rattle.linked_lists.specs.Numbered.{by_number}
use Rattle.linked_lists.proofs.Numbered.{inserted, removed, get_below, get_from}

pub absurd_bool : {P : Type 0} (b : Bool) → b ≡ false → b ≡ true → P
absurd_bool b f t = cc

pub cases_eq : {P : Type 0} (a b : ℕ) → (a ≡ b → P) → (a ≢ b → P) → P
cases_eq {P} a b same apart =
    elim (nat_eq a b) as (λ r. nat_eq a b ≡ r → P) [
      | true ↦ λ e. same ((Decides-eqb a b).0 e)
      | false ↦ λ e. apart (λ is. absurd_bool (nat_eq a b) e ((Decides-eqb a b).1 is))
    ] refl

pub apart : (q n : ℕ) → q ≢ n → nat_eq q n ≡ false
apart q n other = grind (arith, nat_tests)

pub alike : (q n : ℕ) → q ≡ n → nat_eq q n ≡ true
alike q n same = grind (arith, nat_tests)

module _ {X : Type 0} where
  pub get-by_number : (xs : List (Option X)) (q i : ℕ) → q ≡ i + 1 → get (by_number 1 xs) q ≡ get_or xs i None
  get-by_number xs q i at = get_from q 1 i xs (omega arith)

  pub get-by_number-0 : (xs : List (Option X)) → get (by_number 1 xs) 0 ≡ None
  get-by_number-0 xs = get_below 0 1 xs (omega arith)

  -- two such maps are equal where they agree at each number
  same_numbers : (m n : FinMap nat_cmp X) → get m 0 ≡ get n 0 → ((i : ℕ) → get m (i + 1) ≡ get n (i + 1)) → m ≡ n
  same_numbers m n nought more =
      same_map nat_cmp_total nat_cmp-IsAntisymmetric m n (λ q. elim q as (λ q. get m q ≡ get n q) [ zero ↦ nought | suc i ↦ rw (← add-one) (more i) ])

  get-insert-at : (m : FinMap nat_cmp X) (k q : ℕ) (x : X) → q ≡ k → get (insert m k x) q ≡ Some x
  get-insert-at m k q x same = inserted m k q x ∙ ap (λ b. cond b (Some x) (get m q)) (alike q k same)

  get-insert-beside : (m : FinMap nat_cmp X) (k q : ℕ) (x : X) → q ≢ k → get (insert m k x) q ≡ get m q
  get-insert-beside m k q x other = inserted m k q x ∙ ap (λ b. cond b (Some x) (get m q)) (apart q k other)

  get-remove-at : (m : FinMap nat_cmp X) (k q : ℕ) → q ≡ k → get (remove m k) q ≡ None
  get-remove-at m k q same = removed m k q ∙ ap (λ b. cond b None (get m q)) (alike q k same)

  get-remove-beside : (m : FinMap nat_cmp X) (k q : ℕ) → q ≢ k → get (remove m k) q ≡ get m q
  get-remove-beside m k q other = removed m k q ∙ ap (λ b. cond b None (get m q)) (apart q k other)

  get_or-set : (xs : List (Option X)) (i j : ℕ) (v w : Option X) → i < length xs → (j ≡ i → w ≡ v) → (j ≢ i → w ≡ get_or xs j None) → get_or (set xs i v) j None ≡ w
  get_or-set xs i j v w low here there =
      cases_eq j i (λ same. subst (λ k. get_or (set xs i v) k None ≡ v) (sym same) (get_or-set_same xs i v None low) ∙ sym (here same)) (λ other. get_or-set_other xs i j v None other ∙ sym (there other))

  pub by_number-set : (xs : List (Option X)) (i : ℕ) (x : X) → i < length xs → by_number 1 (set xs i (Some x)) ≡ insert (by_number 1 xs) (i + 1) x
  by_number-set xs i x low =
      same_numbers _ _ (get-by_number-0 (set xs i (Some x)) ∙ sym (get-insert-beside _ (i + 1) 0 x (λ e. omega arith) ∙ get-by_number-0 xs))
      (λ j. get-by_number (set xs i (Some x)) (j + 1) j refl ∙ get_or-set xs i j (Some x) _ low (λ same. get-insert-at _ (i + 1) (j + 1) x (omega arith)) (λ other. get-insert-beside _ (i + 1) (j + 1) x (λ e. other (omega arith)) ∙ get-by_number xs (j + 1) j refl))

  pub by_number-clear : (xs : List (Option X)) (i : ℕ) → i < length xs → by_number 1 (set xs i None) ≡ remove (by_number 1 xs) (i + 1)
  by_number-clear xs i low =
      same_numbers _ _ (get-by_number-0 (set xs i None) ∙ sym (get-remove-beside _ (i + 1) 0 (λ e. omega arith) ∙ get-by_number-0 xs))
      (λ j. get-by_number (set xs i None) (j + 1) j refl ∙ get_or-set xs i j None _ low (λ same. get-remove-at _ (i + 1) (j + 1) (omega arith)) (λ other. get-remove-beside _ (i + 1) (j + 1) (λ e. other (omega arith)) ∙ get-by_number xs (j + 1) j refl))

  get_or-push : (xs : List (Option X)) (j : ℕ) (v w : Option X) → (j ≡ length xs → w ≡ v) → (j ≢ length xs → w ≡ get_or xs j None) → get_or (xs ++ v ∷ []) j None ≡ w
  get_or-push [] zero v w here there = sym (here refl)
  get_or-push [] (suc j) v w here there = sym (there (λ e. omega arith))
  get_or-push (x ∷ xs) zero v w here there = sym (there (λ e. omega arith))
  get_or-push (x ∷ xs) (suc j) v w here there = get_or-push xs j v w (λ e. here (omega arith)) (λ other. there (λ e. other (omega arith)))

  -- an empty place at the end changes nothing
  pub by_number-open : (xs : List (Option X)) → by_number 1 (xs ++ None ∷ []) ≡ by_number 1 xs
  by_number-open xs =
      same_numbers _ _ (get-by_number-0 (xs ++ None ∷ []) ∙ sym (get-by_number-0 xs))
      (λ j. get-by_number (xs ++ None ∷ []) (j + 1) j refl
      ∙ get_or-push xs j None _ (λ same. get-by_number xs (j + 1) j refl ∙ get_or_past xs j None (omega arith)) (λ other. get-by_number xs (j + 1) j refl))

  not_there : {P : Type 0} → (o : Option X) → o ≡ None → IsSome o → P
  not_there o e is = absurd_bool (is_some o) (ap is_some e) is

  pub get_or-some : (xs : List (Option X)) (i : ℕ) → IsSome (get_or xs i None) → i < length xs
  get_or-some [] i is = not_there None refl is
  get_or-some (x ∷ xs) zero is = omega arith
  get_or-some (x ∷ xs) (suc i) is = let low : i < length xs = get_or-some xs i is in omega arith

  -- what is there has a number from 1 to the length
  pub number_of : (xs : List (Option X)) (q : ℕ) → IsSome (get (by_number 1 xs) q) → (1 ≤ q) × (q < length xs + 1)
  number_of xs zero is = not_there _ (get-by_number-0 xs) is
  number_of xs (suc i) is =
      let low : i < length xs = get_or-some xs i (subst (λ o. IsSome o) (get-by_number xs (suc i) i (omega arith)) is) in
      (omega arith, omega arith)
