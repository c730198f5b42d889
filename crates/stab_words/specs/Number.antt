-- Numbers in words.
use Rattle.std.specs.Prelude.{ℕ, ◌&&◌, Bool, nat_le, List, length, Option, Some, None, if◌then◌else◌}
use Rattle.std.specs.Str.{all_ascii_digits}
use Rattle.text_lines.specs.Digits.{decimal_value}

-- 1 to 10 digits with a value from 1 to `most`; leading zeros are allowed
abbrev pub is_number : ℕ → List ℕ → Bool
is_number most word =
    all_ascii_digits word && nat_le 1 (length word) && nat_le (length word) 10
    && nat_le 1 (decimal_value word) && nat_le (decimal_value word) most

-- the number in a word, if it is one
abbrev pub number_in : ℕ → List ℕ → Option ℕ
number_in most word = if is_number most word then Some (decimal_value word) else None
