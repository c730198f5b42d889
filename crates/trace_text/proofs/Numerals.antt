-- A signed number is the value of its own digits, and digits are those of their value.
use Rattle.std.proofs.Common.{◌≡◌, ℕ, suc, ◌-◌, ◌^◌, ◌<◌, true, false, cond, eqb, leb, List, [], ◌∷◌, length, Option, Some, None, ℤ, pos, negsuc, refl, sym, ap, subst, ◌∙◌, arith}
use Rattle.std.specs.Prelude.{decimal, FitsSigned}
use Rattle.std.specs.Option.{option_map}
use Rattle.std.specs.Int.{w64}
use Rattle.std.specs.Fmt.{signed_decimal}
use Rattle.std.specs.Char.{is_ascii_digit}
use Rattle.std.specs.Str.{all_ascii_digits}
use Rattle.std.proofs.lemmas.Bool.{eqb-true, leb-true, ne_eqb, and_parts}
use Rattle.std.proofs.lemmas.Fmt.{decimal_nonempty}
use Rattle.text_lines.specs.Numeral.{number_in}
use Rattle.text_lines.proofs.Numerals.{IsNumber, decimal_digits, number_in-decimal, number_in-some}
use Rattle.trace_text.specs.Number.{signed_in}

-- no digit is a `-`
digit_no_dash : (d : ℕ) (ds : List ℕ) → all_ascii_digits (d ∷ ds) ≡ true → eqb d 45 ≡ false
digit_no_dash d ds digits =
    let first = (and_parts (is_ascii_digit d) (all_ascii_digits ds) digits).0 in
    let low = leb-true 48 d (and_parts (leb 48 d) (leb d 57) first).0 in
    ne_eqb d 45 (λ same. omega arith)

plain_signed : (word : List ℕ) → all_ascii_digits word ≡ true → 0 < length word → signed_in word ≡ option_map pos (number_in 0 (2 ^ 63 - 1) word)
plain_signed [] digits some = absurd (omega arith)
plain_signed (d ∷ ds) digits some =
    ap (λ b. cond b (option_map (λ n. negsuc (n - 1)) (number_in 1 (2 ^ 63) ds)) (option_map pos (number_in 0 (2 ^ 63 - 1) (d ∷ ds)))) (digit_no_dash d ds digits)

pub signed_in-decimal : (z : ℤ) → FitsSigned w64 z → signed_in (signed_decimal z) ≡ Some z
signed_in-decimal (pos n) fits =
    let small : n < 2 ^ 63 = fits.sfits in
    plain_signed (decimal n) (decimal_digits n (omega arith)) (decimal_nonempty n (omega arith))
    ∙ ap (option_map pos) (number_in-decimal 0 (2 ^ 63 - 1) n (omega arith) (omega arith) (omega arith))
signed_in-decimal (negsuc n) fits =
    let small : n < 2 ^ 63 = fits.sfits in
    let back : suc n - 1 ≡ n = omega arith in
    ap (option_map (λ n. negsuc (n - 1))) (number_in-decimal 1 (2 ^ 63) (suc n) (omega arith) (omega arith) (omega arith)) ∙ ap (λ m. Some (negsuc m)) back

pub record IsSigned (word : List ℕ) (z : ℤ) : Type 0 where
  pub spelled : word ≡ signed_decimal z
  pub fits : FitsSigned w64 z

negative : (n : ℕ) (rest : List ℕ) → IsNumber 1 (2 ^ 63) rest n → IsSigned (45 ∷ rest) (negsuc (n - 1))
negative n rest is =
    let low = is.low in
    let high = is.high in
    let back : n ≡ suc (n - 1) = omega arith in
    record { spelled = ap (λ ds. 45 ∷ ds) (is.spelled ∙ ap decimal back); fits = record { sfits = omega arith } }

positive : (n : ℕ) (word : List ℕ) → IsNumber 0 (2 ^ 63 - 1) word n → IsSigned word (pos n)
positive n word is = let high = is.high in record { spelled = is.spelled; fits = record { sfits = omega arith } }

mapped : (o : Option ℕ) (f : ℕ → ℤ) (z : ℤ) → option_map f o ≡ Some z → (n : ℕ) × (o ≡ Some n) × (f n ≡ z)
mapped None f z e = cc
mapped (Some n) f z e = (n, refl, cc)

pub signed_in-some : (word : List ℕ) (z : ℤ) → signed_in word ≡ Some z → IsSigned word z
signed_in-some [] z e = cc
signed_in-some (d ∷ ds) z given =
    elim (eqb d 45) as (λ b. eqb d 45 ≡ b → cond b (option_map (λ n. negsuc (n - 1)) (number_in 1 (2 ^ 63) ds)) (option_map pos (number_in 0 (2 ^ 63 - 1) (d ∷ ds))) ≡ Some z → IsSigned (d ∷ ds) z) [
      | true ↦ λ dash e.
          let m = mapped (number_in 1 (2 ^ 63) ds) (λ n. negsuc (n - 1)) z e in
          let is = negative m.0 ds (number_in-some 1 (2 ^ 63) ds m.0 (omega arith) m.1) in
          subst (IsSigned (d ∷ ds)) m.2 (subst (λ b. IsSigned (b ∷ ds) (negsuc (m.0 - 1))) (sym (eqb-true d 45 dash)) is)
      | false ↦ λ _ e.
          let m = mapped (number_in 0 (2 ^ 63 - 1) (d ∷ ds)) pos z e in
          subst (IsSigned (d ∷ ds)) m.2 (positive m.0 (d ∷ ds) (number_in-some 0 (2 ^ 63 - 1) (d ∷ ds) m.0 (omega arith) m.1))
    ] refl given
