-- Numerals: decimal numbers without leading zeros.
use Rattle.std.specs.Prelude.{ℕ, ◌==◌, ◌&&◌, ◌||◌, not, Bool, false, nat_le, List, [], ◌∷◌, length, Option, Some, None, if◌then◌else◌}
use Rattle.std.specs.Str.{all_ascii_digits}
use Rattle.text_lines.specs.Digits.{decimal_value}

-- digits, at least one, and the first isn't `0` but where it is the only one
abbrev pub is_numeral : List ℕ → Bool
is_numeral [] = false
is_numeral (first ∷ rest) = all_ascii_digits (first ∷ rest) && (not (first == 48) || length rest == 0)

-- the number from `least` to `most` that a word is, if it is one
abbrev pub number_in : ℕ → ℕ → List ℕ → Option ℕ
number_in least most word = if is_numeral word && (nat_le least (decimal_value word) && nat_le (decimal_value word) most) then Some (decimal_value word) else None
