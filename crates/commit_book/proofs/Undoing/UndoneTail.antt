-- The threads that go back by a plan, in the order of their numbers.
use Rattle.std.proofs.Common.{◌≡◌, ℕ, zero, suc, ◌-◌, ◌<◌, ◌≤◌, Bool, true, false, cond, ◌&&◌, ◌||◌, nat_eq, List, [], ◌∷◌, ◌++◌, length, get_or, refl, sym, ap, subst, ◌∙◌, arith}
use Rattle.std.specs.Prelude.{filter, nat_lt}
use Rattle.std.specs.List.{AllByRecursion, IsDistinct}
use Rattle.std.specs.List.Sorted.{IsNonDecreasing}
use Rattle.std.specs.FinMap as map
use Rattle.std.proofs.lemmas.Bool.{false≢true, eqb-true}
use Rattle.std.proofs.lemmas.Bool.Decides.{nat_tests}
use Rattle.std.proofs.lemmas.List.Elements.{filter-append}
use Rattle.std.proofs.lemmas.List.Folds.{list_any-append}
use Rattle.std.proofs.lemmas.List.Sorted.{IsNonDecreasingBy-push, IsNonDecreasingBy-short}
use Rattle.linked_lists.specs.Lists.{is_listed}
use Rattle.linked_lists.proofs.Leaving.{IsDistinct-nil}
use Rattle.thread_slots.specs.Ready.{numbers}
use Rattle.thread_slots.proofs.Counted.{numbers-same}
use Rattle.restore.specs.Left.{LineMap, goes_back, is_touched}
use Rattle.restore.proofs.Ordered.{sorted_keys}
use Rattle.commit_book.proofs.Keeping.Floors.{differs_too}
use Rattle.commit_book.proofs.Undoing.UndoneQueue.{distinct_append, once_distinct}

-- all are below n
all_below : (p : ℕ → Bool) (n k : ℕ) → n ≤ k → AllByRecursion (λ (x : ℕ). x < k) (numbers p n)
all_below p zero k low = tt
all_below p (suc n) k low = both (numbers p n) (all_below p n k (omega arith)) (p n)
  where
    both : (xs : List ℕ) → AllByRecursion (λ (x : ℕ). x < k) xs → (b : Bool) → AllByRecursion (λ (x : ℕ). x < k) (xs ++ cond b (n ∷ []) [])
    both [] all true = (omega (arith, low), tt)
    both [] all false = tt
    both (x ∷ xs) all b = (all.0, both xs all.1 b)

at_low : (xs : List ℕ) (k : ℕ) → AllByRecursion (λ (x : ℕ). x < k) xs → (i : ℕ) (d : ℕ) → i < length xs → get_or xs i d < k
at_low [] k all i d low = absurd (omega (arith, low))
at_low (x ∷ xs) k all zero d low = all.0
at_low (x ∷ xs) k all (suc i) d low = at_low xs k all.1 i d (omega (arith, low))

numbers_rise : (p : ℕ → Bool) (n : ℕ) → IsNonDecreasing (numbers p n)
numbers_rise p zero = IsNonDecreasingBy-short (λ (x : ℕ). x) [] (omega arith)
numbers_rise p (suc n) = elim (p n) as (λ b. IsNonDecreasing (numbers p n ++ cond b (n ∷ []) [])) [
  | true ↦ IsNonDecreasingBy-push (λ (x : ℕ). x) (numbers p n) n (numbers_rise p n) (λ d some. let low : get_or (numbers p n) (length (numbers p n) - 1) d < n = at_low (numbers p n) n (all_below p n n (omega arith)) (length (numbers p n) - 1) d (omega (arith, some)) in omega (arith, low))
  | false ↦ subst IsNonDecreasing (sym (nothing_more (numbers p n))) (numbers_rise p n)
]
  where
    nothing_more : (l : List ℕ) → l ++ [] ≡ l
    nothing_more [] = refl
    nothing_more (x ∷ xs) = ap (λ t. x ∷ t) (nothing_more xs)

one_listed : (t n : ℕ) (b : Bool) → is_listed t (cond b (n ∷ []) []) ≡ (nat_eq t n && b)
one_listed t n true = or_no (nat_eq t n)
  where
    or_no : (c : Bool) → (c || false) ≡ (c && true)
    or_no true = refl
    or_no false = refl
one_listed t n false = and_no (nat_eq t n)
  where
    and_no : (c : Bool) → false ≡ (c && false)
    and_no true = refl
    and_no false = refl

-- who is below n and passes
listed_in : (p : ℕ → Bool) (n t : ℕ) → is_listed t (numbers p n) ≡ (nat_lt t n && p t)
listed_in p zero t = none t
  where
    none : (t : ℕ) → false ≡ (nat_lt t 0 && p t)
    none t = ap (λ b. b && p t) (sym (not_below t))
      where
        not_below : (t : ℕ) → nat_lt t 0 ≡ false
        not_below t = grind (arith, nat_tests)
listed_in p (suc n) t =
    list_any-append (nat_eq t) (numbers p n) (cond (p n) (n ∷ []) [])
    ∙ ap (λ b. b || is_listed t (cond (p n) (n ∷ []) [])) (listed_in p n t)
    ∙ ap (λ b. (nat_lt t n && p t) || b) (one_listed t n (p n))
    ∙ (elim (nat_eq t n) as (λ c. nat_eq t n ≡ c → ((nat_lt t n && p t) || (c && p n)) ≡ (nat_lt t (suc n) && p t)) [
      | true ↦ λ same. let is : t ≡ n = eqb-true t n same in
          ap (λ k. (nat_lt t n && p t) || p k) (sym is) ∙ here (nat_lt t n) (p t) ∙ ap (λ b. b && p t) (sym (below_next t n (omega (arith, is))))
      | false ↦ λ other. or_no (nat_lt t n && p t) ∙ ap (λ b. b && p t) (same_below t n other)
    ] refl)
  where
    or_no : (b : Bool) → (b || false) ≡ b
    or_no true = refl
    or_no false = refl

    here : (a b : Bool) → ((a && b) || b) ≡ (true && b)
    here true true = refl
    here true false = refl
    here false b = refl

    below_next : (a b : ℕ) → a ≤ b → nat_lt a (suc b) ≡ true
    below_next a b h = grind (arith, nat_tests)

    same_below : (a b : ℕ) → nat_eq a b ≡ false → nat_lt a b ≡ nat_lt a (suc b)
    same_below a b h = grind (arith, nat_tests)

numbers_once : (p : ℕ → Bool) (n : ℕ) → IsDistinct nat_eq (numbers p n)
numbers_once p zero = IsDistinct-nil
numbers_once p (suc n) = distinct_append (numbers p n) (cond (p n) (n ∷ []) []) (numbers_once p n) (one_once (p n))
    (λ t at. one_listed t n (p n) ∙ ap (λ b. b && p n) (apart t at))
  where
    one_once : (b : Bool) → IsDistinct nat_eq (cond b (n ∷ []) [])
    one_once true = once_distinct (n ∷ []) (refl, tt)
    one_once false = IsDistinct-nil

    below : (a b : ℕ) → nat_lt a b ≡ true → a < b
    below a b h = grind (arith, nat_tests)

    apart : (t : ℕ) → is_listed t (numbers p n) ≡ true → nat_eq t n ≡ false
    apart t at = elim (nat_lt t n) as (λ b. nat_lt t n ≡ b → (b && p t) ≡ true → nat_eq t n ≡ false) [
      | true ↦ λ low h. differs_too t n (below t n low)
      | false ↦ λ high h. absurd (false≢true h)
    ] refl (sym (listed_in p n t) ∙ at)

-- those that pass another test too
numbers_filter : (p q : ℕ → Bool) (n : ℕ) → filter q (numbers p n) ≡ numbers (λ t. p t && q t) n
numbers_filter p q zero = refl
numbers_filter p q (suc n) =
    filter-append q (numbers p n) (cond (p n) (n ∷ []) [])
    ∙ ap (λ l. l ++ filter q (cond (p n) (n ∷ []) [])) (numbers_filter p q n)
    ∙ ap (λ l. numbers (λ t. p t && q t) n ++ l) (one (p n))
  where
    one : (b : Bool) → filter q (cond b (n ∷ []) []) ≡ cond (b && q n) (n ∷ []) []
    one true = refl
    one false = refl

-- where all touched threads have numbers below n
pub tail_is : (lines : LineMap) (n : ℕ) (q : ℕ → Bool) → ((t : ℕ) → is_touched lines t ≡ true → t < n) → ((t : ℕ) → (is_touched lines t && goes_back lines t) ≡ q t) → filter (goes_back lines) (map.keys lines) ≡ numbers q n
tail_is lines n q low same =
    ap (filter (goes_back lines)) (sym (sorted_keys lines (numbers (is_touched lines) n) (numbers_rise (is_touched lines) n) (numbers_once (is_touched lines) n) (λ t. listed_in (is_touched lines) n t ∙ all_low t)))
    ∙ numbers_filter (is_touched lines) (goes_back lines) n
    ∙ sym (numbers-same (λ t. is_touched lines t && goes_back lines t) q n (λ t below. sym (same t)))
  where
    is_below : (a b : ℕ) → a < b → nat_lt a b ≡ true
    is_below a b h = grind (arith, nat_tests)

    all_low : (t : ℕ) → (nat_lt t n && is_touched lines t) ≡ map.contains_key lines t
    all_low t = elim (is_touched lines t) as (λ b. is_touched lines t ≡ b → (nat_lt t n && b) ≡ b) [
      | true ↦ λ at. ap (λ b. b && true) (is_below t n (low t at))
      | false ↦ λ off. no (nat_lt t n)
    ] refl
      where
        no : (b : Bool) → (b && false) ≡ false
        no true = refl
        no false = refl
