-- Each number of 64 bits may be what a probe gets.
use Rattle.std.proofs.Common.{◌≡◌, ℕ, ◌<◌, ◌^◌, true, nat_lt, pos, negsuc, ℤ, arith, SFits, w64}
use Rattle.std.proofs.lemmas.Bool.Decides.{nat_tests}
use Rattle.language.specs.Numbers.{fits_word}

below : (n : ℕ) → n < 2 ^ 63 → nat_lt n (2 ^ 63) ≡ true
below n h = grind (arith, nat_tests)

pub word_fits : (i : ℤ) → SFits w64 i → fits_word i ≡ true
word_fits (pos n) h = below n h.sfits
word_fits (negsuc n) h = below n h.sfits
