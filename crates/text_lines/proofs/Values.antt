-- Numbers and their digits.
use Rattle.std.proofs.Common.{◌≡◌, ℕ, ◌+◌, ◌-◌, ◌*◌, ◌^◌, ◌<◌, ◌≤◌, Bool, true, false, ◌&&◌, cond, ltb, List, [], ◌∷◌, length, get_or, drop, Option, Some, None, refl, sym, ap, ◌∙◌, arith}
use Rattle.std.specs.Str.{all_ascii_digits}
use Rattle.std.proofs.lemmas.Bool.{le-ltb, lt-ltb}
use Rattle.std.proofs.lemmas.List.{drop_more, drop_all}
use Rattle.text_lines.specs.Digits.{decimal_value, value_on}

-- a number grows with each digit
grows : (n : ℕ) (digits : List ℕ) → n ≤ value_on n digits
grows n [] = omega arith
grows n (d ∷ digits) = omega (arith, grows (n * 10 + (d - 48)) digits)

-- what 64 bits hold of digits
abbrev pub held : List ℕ → Option ℕ
held word = cond (all_ascii_digits word && ltb (decimal_value word) (2 ^ 64)) (Some (decimal_value word)) None

too_great : (word : List ℕ) → 2 ^ 64 ≤ decimal_value word → None ≡ held word
too_great word great =
    rw (le-ltb (decimal_value word) (2 ^ 64) great)
    (elim (all_ascii_digits word) as (λ b. None ≡ cond (b && false) (Some (decimal_value word)) None) [ true ↦ refl | false ↦ refl ])

pub overflows : (word : List ℕ) (i value digit : ℕ) → i < length word → decimal_value word ≡ value_on value (drop i word) → digit ≡ get_or word i 0 - 48 → 2 ^ 64 ≤ value * 10 + digit → None ≡ held word
overflows word i value digit within so_far digit_is great =
    let here : decimal_value word ≡ value_on (value * 10 + (get_or word i 0 - 48)) (drop (i + 1) word) = so_far ∙ ap (value_on value) (drop_more word i 0 within) in
    let more = grows (value * 10 + (get_or word i 0 - 48)) (drop (i + 1) word) in
    too_great word (omega arith)

pub finished : (word : List ℕ) (i value : ℕ) → length word ≤ i → all_ascii_digits word ≡ all_ascii_digits (drop i word) → decimal_value word ≡ value_on value (drop i word) → value < 2 ^ 64 → Some value ≡ held word
finished word i value all digits so_far small =
    let all_digits : all_ascii_digits word ≡ true = digits ∙ ap all_ascii_digits (drop_all i word all) in
    let value_is : decimal_value word ≡ value = so_far ∙ ap (value_on value) (drop_all i word all) in
    let fits : ltb (decimal_value word) (2 ^ 64) ≡ true = lt-ltb (decimal_value word) (2 ^ 64) (omega arith) in
    ap Some (sym value_is)
    ∙ sym (ap (λ b. cond (b && ltb (decimal_value word) (2 ^ 64)) (Some (decimal_value word)) None) all_digits ∙ ap (λ b. cond b (Some (decimal_value word)) None) fits)
