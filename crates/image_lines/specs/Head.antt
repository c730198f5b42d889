-- The lines before those of a state, by their pieces: first the shape is tested, then the numbers.
use Rattle.std.specs.Prelude.{ℕ, ℤ, ◌&&◌, List, [], ◌∷◌, Option, Some, None, Result, Ok, Err, codes, if◌then◌else◌}
use Rattle.std.specs.Str.{bytes_eq}
use Rattle.text_lines.specs.Numeral.{number_in}
use Rattle.trace_text.specs.Number.{signed_in}
use Rattle.image_text.specs.declared.fault.LineFault.{LineFault}
use Rattle.image_text.specs.declared.fault.LineFault.TheVariants.{BadLine, BadNumber}
use Rattle.image_text.specs.Reading.{is_piece}
use Rattle.image_lines.specs.declared.head.Next.{Next}
use Rattle.image_lines.specs.declared.head.Probes.{Probes}

abbrev pub length_of : Option ℕ → Result ℕ LineFault
length_of (Some n) = Ok n
length_of None = Err BadNumber

abbrev pub length_in : List (List ℕ) → Result ℕ LineFault
length_in (name ∷ n ∷ []) = if bytes_eq name (codes "program") && is_piece n then length_of (number_in 0 1048576 n) else Err BadLine
length_in ps = Err BadLine

abbrev pub probes_of : Option ℕ → Option ℕ → Result Probes LineFault
probes_of (Some n) (Some m) = Ok (record { count = n; used = m })
probes_of n m = Err BadNumber

abbrev pub probes_in : List (List ℕ) → Result Probes LineFault
probes_in (name ∷ n ∷ m ∷ []) =
    if bytes_eq name (codes "probes") && (is_piece n && is_piece m) then probes_of (number_in 0 524288 n) (number_in 0 4294967295 m) else Err BadLine
probes_in ps = Err BadLine

abbrev pub probe_of : Option ℤ → Result ℤ LineFault
probe_of (Some z) = Ok z
probe_of None = Err BadNumber

abbrev pub probe_in : List (List ℕ) → Result ℤ LineFault
probe_in (n ∷ []) = if is_piece n then probe_of (signed_in n) else Err BadLine
probe_in ps = Err BadLine

abbrev pub next_of : Option ℕ → Option ℕ → Option ℕ → Option ℕ → Result Next LineFault
next_of (Some q) (Some t) (Some c) (Some r) = Ok (record { cut = q; thread = t; chan = c; reference = r })
next_of q t c r = Err BadNumber

abbrev pub next_behind : Option ℕ → Option ℕ → List (List ℕ) → Result Next LineFault
next_behind q t (c ∷ r ∷ []) = if is_piece c && is_piece r then next_of q t (number_in 1 4000000001 c) (number_in 1 4000000001 r) else Err BadLine
next_behind q t ps = Err BadLine

abbrev pub next_named : List (List ℕ) → Result Next LineFault
next_named (q ∷ t ∷ ps) = if is_piece q && is_piece t then next_behind (number_in 0 4294967295 q) (number_in 1 4000000001 t) ps else Err BadLine
next_named ps = Err BadLine

abbrev pub next_in : List (List ℕ) → Result Next LineFault
next_in [] = Err BadLine
next_in (name ∷ ps) = if bytes_eq name (codes "next") then next_named ps else Err BadLine
