-- A probe file, and the numbers that it is read as.
use Rattle.std.specs.Prelude.{ℕ, ◌-◌, ◌^◌, ◌==◌, ◌&&◌, nat_le, List, [], ◌∷◌, Option, Some, None, option_map, Result, Ok, Err, ℤ, pos, neg_ℤ, if◌then◌else◌}
use Rattle.std.specs.Str.{all_ascii_digits}
use Rattle.probe_text.specs.declared.fault.ProbesFault.{ProbesFault}
use Rattle.probe_text.specs.declared.fault.ProbesFault.TheVariants.{Line}
use Rattle.text_lines.specs.Digits.{decimal_value}
use Rattle.text_lines.specs.Lines.{lines_of}

-- the number that digits are, if there are some and it is at most this one
abbrev pub size_in : ℕ → List ℕ → Option ℕ
size_in most [] = None
size_in most (d ∷ digits) =
    if all_ascii_digits (d ∷ digits) && nat_le (decimal_value (d ∷ digits)) most then Some (decimal_value (d ∷ digits)) else None

-- the number of 64 signed bits that bytes are: digits, with or without a minus before them
abbrev pub number_of : List ℕ → Option ℤ
number_of [] = None
number_of (b ∷ bytes) =
    if b == 45 then option_map (λ n. neg_ℤ (pos n)) (size_in (2 ^ 63) bytes) else option_map pos (size_in (2 ^ 63 - 1) (b ∷ bytes))

-- the number of a line that begins at `at`, and then the others
abbrev pub before : Option ℤ → ℕ → Result (List ℤ) ProbesFault → Result (List ℤ) ProbesFault
before None at others = Err (Line at)
before (Some n) at (Ok ns) = Ok (n ∷ ns)
before (Some n) at (Err fault) = Err fault

-- what lines are read as, each of which stands behind the place of its first byte
abbrev pub read_lines : List (ℕ × List ℕ) → Result (List ℤ) ProbesFault
read_lines [] = Ok []
read_lines (line ∷ lines) = before (number_of line.1) line.0 (read_lines lines)

-- The numbers that bytes are read as, or their first fault.
abbrev pub reading : List ℕ → Result (List ℤ) ProbesFault
reading bytes = read_lines (lines_of bytes)
