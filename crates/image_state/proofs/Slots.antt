-- How often a slot is in a list, and fewer slots of it.
use Rattle.std.proofs.Common.{◌≡◌, ℕ, zero, suc, ◌+◌, ◌≤◌, Bool, true, false, cond, ◌||◌, nat_eq, nat_lt, List, [], ◌∷◌, take, refl, ap, ◌∙◌, arith}
use Rattle.std.specs.List.{count_by, list_any}
use Rattle.std.proofs.lemmas.Bool.Decides.{nat_tests}
use Rattle.std.proofs.lemmas.List.Sums.{sum_by-cons}

some_more : (n : ℕ) → nat_lt 0 (1 + n) ≡ true
some_more n = grind (arith, nat_tests)

one_more : (b t : Bool) (n : ℕ) → nat_lt 0 n ≡ t → nat_lt 0 (cond b 1 0 + n) ≡ (b || t)
one_more true t n is = some_more n
one_more false t n is =
    let same : 0 + n ≡ n = omega arith in
    ap (nat_lt 0) same ∙ is

-- it is there where it is there more than no times
pub any_count : (x : ℕ) (xs : List ℕ) → nat_lt 0 (count_by (λ y. nat_eq y x) xs) ≡ list_any (λ y. nat_eq y x) xs
any_count x [] = refl
any_count x (y ∷ ys) =
    let most : count_by (λ z. nat_eq z x) (y ∷ ys) ≡ cond (nat_eq y x) 1 0 + count_by (λ z. nat_eq z x) ys = sum_by-cons (λ z. cond (nat_eq z x) 1 0) y ys in
    ap (nat_lt 0) most ∙ one_more (nat_eq y x) (list_any (λ z. nat_eq z x) ys) (count_by (λ z. nat_eq z x) ys) (any_count x ys)

pub take_fewer : (n m : ℕ) (xs : List ℕ) → n ≤ m → take n (take m xs) ≡ take n xs
take_fewer zero m xs le = refl
take_fewer (suc n) zero xs le = absurd (omega arith)
take_fewer (suc n) (suc m) [] le = refl
take_fewer (suc n) (suc m) (x ∷ xs) le = ap (λ (ys : List ℕ). x ∷ ys) (take_fewer n m xs (omega arith))
