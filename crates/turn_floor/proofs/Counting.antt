-- Counts that stop at the greatest number of 64 bits.
use Rattle.std.proofs.Common.{◌≡◌, ℕ, zero, suc, ◌+◌, ◌-◌, ◌^◌, Bool, true, false, ap, refl, arith}
use Rattle.std.specs.Prelude.{min}
use Rattle.turn_floor.specs.Counts.{once, risen}

-- a count that rose by what was counted before rises with the next
pub risen_more : (so : Bool) (a n : ℕ) → risen (once so) (risen a n) ≡ risen (a + once so) n
risen_more true a n = let e : suc a ≡ a + 1 = omega arith in ap (λ (m : ℕ). risen m n) e
risen_more false a n = let e : a ≡ a + 0 = omega arith in ap (λ (m : ℕ). risen m n) e

risen_least : (a : ℕ) → risen a 0 ≡ min a (2 ^ 64 - 1)
risen_least zero = refl
risen_least (suc a) = let e = risen_least a in omega (arith, e)

-- two counts from 0 add up
pub risen_sum : (a b : ℕ) → min (risen a 0 + risen b 0) (2 ^ 64 - 1) ≡ risen (a + b) 0
risen_sum a b = omega (arith, risen_least a, risen_least b, risen_least (a + b))
