-- A number is the value of its own digits, and digits are those of their value.
use Rattle.std.proofs.Common.{◌≡◌, ◌≢◌, ℕ, suc, ◌+◌, ◌-◌, ◌*◌, ◌^◌, ◌<◌, ◌≤◌, Bool, true, false, not, ◌&&◌, ◌||◌, cond, eqb, leb, List, [], ◌∷◌, length, get_or, Option, Some, None, ℤ, pos, negsuc, refl, sym, ap, subst, ◌∙◌, arith}
use Rattle.std.specs.Prelude.{decimal}
use Rattle.std.specs.Str.{all_ascii_digits}
use Rattle.std.proofs.lemmas.Bool.{eqb-true, eqb-false, leb-true, le-leb, ne_eqb, and_parts, and_from}
use Rattle.std.proofs.lemmas.Fmt.{digits_decimal, digits_value-decimal, decimal-digits_value, decimal_nonempty, first_decimal, decimal_digit}
use Rattle.std.proofs.lemmas.Str.Parse.{IsNumeralModel, numerals_by_fold, tells_all_ascii_digits}
use Rattle.text_lines.specs.Digits.{decimal_value, value_on}
use Rattle.text_lines.specs.Numeral.{is_numeral, number_in}

own : IsNumeralModel (λ ds. all_ascii_digits ds ≡ true) decimal_value
own = numerals_by_fold _ tells_all_ascii_digits value_on (record { empty = λ _. refl; more = λ _ _ _ _. refl })

-- the first digit isn't 0 but where it is the only one
abbrev LeadsRight : List ℕ → Type 0
LeadsRight ds = get_or ds 0 0 ≡ 48 → length ds ≡ 1

leads_test : (d n : ℕ) → (d ≡ 48 → n ≡ 0) → (not (eqb d 48) || eqb n 0) ≡ true
leads_test d n leads =
    elim (eqb d 48) as (λ b. eqb d 48 ≡ b → (not b || eqb n 0) ≡ true) [
      | true ↦ λ same. ap (λ m. eqb m 0) (leads (eqb-true d 48 same))
      | false ↦ λ _. refl
    ] refl

leads_back : (d n : ℕ) → (not (eqb d 48) || eqb n 0) ≡ true → d ≡ 48 → n ≡ 0
leads_back d n test zero_first =
    elim (eqb n 0) as (λ b. eqb n 0 ≡ b → (not (eqb d 48) || b) ≡ true → n ≡ 0) [
      | true ↦ λ e _. eqb-true n 0 e
      | false ↦ λ _ k. absurd (let same : (not (eqb 48 48) || false) ≡ true = subst (λ m. (not (eqb m 48) || false) ≡ true) zero_first k in cc)
    ] refl test

numeral-true : (ds : List ℕ) → all_ascii_digits ds ≡ true → 0 < length ds → LeadsRight ds → is_numeral ds ≡ true
numeral-true [] digits some leads = absurd (omega arith)
numeral-true (d ∷ ds) digits some leads =
    and_from (all_ascii_digits (d ∷ ds)) (not (eqb d 48) || eqb (length ds) 0) digits (leads_test d (length ds) (λ zero_first. omega (arith, leads zero_first)))

numeral-digits : (ds : List ℕ) → is_numeral ds ≡ true → all_ascii_digits ds ≡ true
numeral-digits [] h = cc
numeral-digits (d ∷ ds) h = (and_parts (all_ascii_digits (d ∷ ds)) (not (eqb d 48) || eqb (length ds) 0) h).0

numeral-some : (ds : List ℕ) → is_numeral ds ≡ true → 0 < length ds
numeral-some [] h = cc
numeral-some (d ∷ ds) h = omega arith

numeral-leads : (ds : List ℕ) → is_numeral ds ≡ true → LeadsRight ds
numeral-leads [] h = cc
numeral-leads (d ∷ ds) h = λ zero_first.
    let test = (and_parts (all_ascii_digits (d ∷ ds)) (not (eqb d 48) || eqb (length ds) 0) h).1 in
    omega (arith, leads_back d (length ds) test zero_first)

leading : (n : ℕ) → n < 2 ^ 64 → LeadsRight (decimal n)
leading n small zero_first =
    elim (eqb n 0) as (λ b. eqb n 0 ≡ b → length (decimal n) ≡ 1) [
      | true ↦ λ e. ap (λ m. length (decimal m)) (eqb-true n 0 e) ∙ ap (λ (ds : List ℕ). length ds) (decimal_digit 0 (omega arith))
      | false ↦ λ e.
          let some : n ≢ 0 = eqb-false n 0 e in
          let above : 48 < get_or (decimal n) 0 0 = first_decimal n (omega arith) small in
          absurd (omega arith)
    ] refl

-- what a number writes is a numeral, and its value is the number
pub decimal_digits : (n : ℕ) → n < 2 ^ 64 → all_ascii_digits (decimal n) ≡ true
decimal_digits n small = digits_decimal own n small

pub numeral-decimal : (n : ℕ) → n < 2 ^ 64 → is_numeral (decimal n) ≡ true
numeral-decimal n small = numeral-true (decimal n) (decimal_digits n small) (decimal_nonempty n small) (leading n small)

-- the test that a word passes which is a number in a range
abbrev in_range : ℕ → ℕ → ℕ → Bool
in_range least most n = leb least n && leb n most

pub number_in-decimal : (least most n : ℕ) → least ≤ n → n ≤ most → n < 2 ^ 64 → number_in least most (decimal n) ≡ Some n
number_in-decimal least most n low high small =
    let value : decimal_value (decimal n) ≡ n = digits_value-decimal own n small in
    let within : in_range least most (decimal_value (decimal n)) ≡ true = subst (λ m. in_range least most m ≡ true) (sym value) (and_from (leb least n) (leb n most) (le-leb least n low) (le-leb n most high)) in
    let passes : (is_numeral (decimal n) && in_range least most (decimal_value (decimal n))) ≡ true = and_from (is_numeral (decimal n)) (in_range least most (decimal_value (decimal n))) (numeral-decimal n small) within in
    ap (λ b. cond b (Some (decimal_value (decimal n))) None) passes ∙ ap Some value

-- a word that is a number in a range is what the number writes
pub record IsNumber (least most : ℕ) (word : List ℕ) (n : ℕ) : Type 0 where
  pub spelled : word ≡ decimal n
  pub low : least ≤ n
  pub high : n ≤ most

pub number_in-some : (least most : ℕ) (word : List ℕ) (n : ℕ) → most < 2 ^ 64 → number_in least most word ≡ Some n → IsNumber least most word n
number_in-some least most word n small =
    elim (is_numeral word && in_range least most (decimal_value word)) as (λ b. (is_numeral word && in_range least most (decimal_value word)) ≡ b → cond b (Some (decimal_value word)) None ≡ Some n → IsNumber least most word n) [
      | true ↦ λ passes e.
          let parts = and_parts (is_numeral word) (in_range least most (decimal_value word)) passes in
          let bounds = and_parts (leb least (decimal_value word)) (leb (decimal_value word) most) parts.1 in
          let low = leb-true least (decimal_value word) bounds.0 in
          let high = leb-true (decimal_value word) most bounds.1 in
          let value : decimal_value word ≡ n = cc in
          let spelled : decimal (decimal_value word) ≡ word = decimal-digits_value own word (numeral-digits word parts.0) (numeral-some word parts.0) (numeral-leads word parts.0) (omega arith) in
          record { spelled = sym spelled ∙ ap decimal value; low = omega arith; high = omega arith }
      | false ↦ λ _ e. cc
    ] refl
