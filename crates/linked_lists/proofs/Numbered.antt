-- What the map of numbered places has is what stands there.
use Rattle.std.proofs.Common.{◌≡◌, ◌≢◌, ℕ, zero, suc, ◌+◌, ◌≤◌, ◌<◌, Bool, false, true, cond, nat_eq, List, [], ◌∷◌, get_or, Option, Some, None, refl, ap, ◌∙◌, arith}
use Rattle.std.specs.Ordering.{nat_cmp}
use Rattle.std.specs.Cmp.{nat_cmp_total, unsigned_tied}
use Rattle.std.specs.FinMap.{FinMap, get, insert, remove, get-empty, get-insert, get-remove}
use Rattle.std.proofs.lemmas.Bool.Decides.{Decides-eqb, nat_tests}
use Rattle.linked_lists.specs.Numbered.{by_number}

module _ {X : Type 0} where
  pub inserted : (m : FinMap nat_cmp X) (k q : ℕ) (x : X) → get (insert m k x) q ≡ cond (nat_eq q k) (Some x) (get m q)
  inserted m k q x = get-insert nat_cmp_total m k x q ∙ ap (λ b. cond b (Some x) (get m q)) (unsigned_tied q k)

  pub removed : (m : FinMap nat_cmp X) (k q : ℕ) → get (remove m k) q ≡ cond (nat_eq q k) None (get m q)
  removed m k q = get-remove nat_cmp_total m k q ∙ ap (λ b. cond b None (get m q)) (unsigned_tied q k)

  beside : (m : FinMap nat_cmp X) (n q : ℕ) (x : X) → q ≢ n → get (insert m n x) q ≡ get m q
  beside m n q x other = inserted m n q x ∙ ap (λ b. cond b (Some x) (get m q)) (let off : nat_eq q n ≡ false = grind (arith, nat_tests) in off)

  pub get_below : (q n : ℕ) (xs : List (Option X)) → q < n → get (by_number n xs) q ≡ None
  get_below q n [] low = get-empty nat_cmp q
  get_below q n (None ∷ xs) low = get_below q (n + 1) xs (omega arith)
  get_below q n (Some x ∷ xs) low = beside (by_number (n + 1) xs) n q x (λ e. omega arith) ∙ get_below q (n + 1) xs (omega arith)

  pub get_from : (q n i : ℕ) (xs : List (Option X)) → q ≡ n + i → get (by_number n xs) q ≡ get_or xs i None
  get_from q n i [] at = get-empty nat_cmp q
  get_from q n zero (None ∷ xs) at = get_below q (n + 1) xs (omega arith)
  get_from q n zero (Some x ∷ xs) at = inserted (by_number (n + 1) xs) n q x ∙ ap (λ b. cond b (Some x) (get (by_number (n + 1) xs) q)) ((Decides-eqb q n).1 (omega arith))
  get_from q n (suc i) (None ∷ xs) at = get_from q (n + 1) i xs (omega arith)
  get_from q n (suc i) (Some x ∷ xs) at = beside (by_number (n + 1) xs) n q x (λ e. omega arith) ∙ get_from q (n + 1) i xs (omega arith)
