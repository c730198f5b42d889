-- The value of decimal digits.
use Rattle.std.specs.Prelude.{ℕ, ◌+◌, ◌-◌, ◌*◌, List, fold}

abbrev pub value_on : ℕ → List ℕ → ℕ
value_on value digits = fold (λ n digit. n * 10 + (digit - 48)) value digits

abbrev pub decimal_value : List ℕ → ℕ
decimal_value digits = value_on 0 digits
