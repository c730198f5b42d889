-- Slots that rise.
use Rattle.std.proofs.Common.{◌≡◌, ℕ, zero, suc, ◌+◌, ◌≤◌, List, [], ◌∷◌, ◌++◌, sym, subst, arith}
use Rattle.std.specs.List.{range_with_len}

-- each is greater than those before it, and none is below k
abbrev pub Rises : ℕ → List ℕ → Type 0
Rises k [] = Unit {0}
Rises k (x ∷ xs) = (k ≤ x) × Rises (x + 1) xs

pub rises_below : (j k : ℕ) (xs : List ℕ) → j ≤ k → Rises k xs → Rises j xs
rises_below j k [] h r = tt
rises_below j k (x ∷ xs) h r = (omega arith, r.1)

pub rises_left : (k : ℕ) (xs ys : List ℕ) → Rises k (xs ++ ys) → Rises k xs
rises_left k [] ys r = tt
rises_left k (x ∷ xs) ys r = (r.0, rises_left (x + 1) xs ys r.1)

pub rises_right : (k : ℕ) (xs ys : List ℕ) → Rises k (xs ++ ys) → Rises k ys
rises_right k [] ys r = r
rises_right k (x ∷ xs) ys r = rises_below k (x + 1) ys (omega (arith, r.0)) (rises_right (x + 1) xs ys r.1)

range_rises : (k n : ℕ) → Rises k (range_with_len k n)
range_rises k zero = tt
range_rises k (suc n) = (omega arith, range_rises (k + 1) n)

behind_range : (k n : ℕ) (xs : List ℕ) → Rises k (range_with_len k n ++ xs) → Rises (k + n) xs
behind_range k zero xs r = subst (λ (j : ℕ). Rises j xs) (omega arith) r
behind_range k (suc n) xs r = subst (λ (j : ℕ). Rises j xs) (omega arith) (behind_range (k + 1) n xs r.1)

-- what stands behind a range in a range rises from the end of the first
pub rises_behind : (n m : ℕ) (xs : List ℕ) → range_with_len 0 n ++ xs ≡ range_with_len 0 m → Rises n xs
rises_behind n m xs e = subst (λ (k : ℕ). Rises k xs) (omega arith) (behind_range 0 n xs (subst (Rises 0) (sym e) (range_rises 0 m)))
