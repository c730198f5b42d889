-- Signed numbers in a trace: decimal, without leading zeros.
use Rattle.std.specs.Prelude.{ℕ, ◌-◌, ◌^◌, ◌==◌, List, [], ◌∷◌, Option, None, option_map, if◌then◌else◌, ℤ, pos, negsuc}
use Rattle.text_lines.specs.Numeral.{number_in}

-- the number of 64 signed bits that a word is, if it is one; there is no `-0`
abbrev pub signed_in : List ℕ → Option ℤ
signed_in [] = None
signed_in (first ∷ rest) =
    if first == 45 then option_map (λ n. negsuc (n - 1)) (number_in 1 (2 ^ 63) rest)
    else option_map pos (number_in 0 (2 ^ 63 - 1) (first ∷ rest))
