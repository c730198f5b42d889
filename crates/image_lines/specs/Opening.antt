-- The program at the front of an image.
use Rattle.std.specs.Prelude.{ℕ, ◌+◌, ◌==◌, nat_lt, List, [], ◌∷◌, length, take, drop, Option, Some, None, option_map, Result, Ok, Err, codes, if◌then◌else◌}
use Rattle.std.specs.Str.{bytes_eq}
use Rattle.text_lines.specs.Lines.{split}
use Rattle.image_text.specs.declared.fault.LineFault.{LineFault}
use Rattle.image_text.specs.declared.fault.LineFault.TheVariants.{BadLine}
use Rattle.image_lines.specs.declared.body.TextFault.{TextFault}
use Rattle.image_lines.specs.declared.body.TextFault.TheVariants.{At, NoEnd}
use Rattle.image_lines.specs.Head.{length_in}

-- what stands before the first line feed, and what behind it
abbrev pub behind_byte : ℕ → List ℕ × List ℕ → List ℕ × List ℕ
behind_byte b x = (b ∷ x.0, x.1)

abbrev pub cut_line : List ℕ → Option (List ℕ × List ℕ)
cut_line [] = None
cut_line (b ∷ bytes) = if b == 10 then Some ([], bytes) else option_map (behind_byte b) (cut_line bytes)

-- behind the program stands a line feed
abbrev pub ended : List ℕ → ℕ → List ℕ → Result (List ℕ × List ℕ) TextFault
ended text at [] = Err NoEnd
ended text at (b ∷ rest) = if b == 10 then Ok (text, rest) else Err (At BadLine at)

-- so many bytes
abbrev pub sized : ℕ → ℕ → List ℕ → Result (List ℕ × List ℕ) TextFault
sized count at rest = if nat_lt (length rest) count then Err NoEnd else ended (take count rest) (at + count) (drop count rest)

abbrev pub by_length : Result ℕ LineFault → ℕ → ℕ → List ℕ → Result (List ℕ × List ℕ) TextFault
by_length (Err k) at next rest = Err (At k at)
by_length (Ok count) at next rest = sized count next rest

abbrev pub length_line : ℕ → Option (List ℕ × List ℕ) → Result (List ℕ × List ℕ) TextFault
length_line at None = Err NoEnd
length_line at (Some x) = by_length (length_in (split 32 x.0)) at (at + length x.0 + 1) x.1

abbrev pub header_line : Option (List ℕ × List ℕ) → Result (List ℕ × List ℕ) TextFault
header_line None = Err NoEnd
header_line (Some x) = if bytes_eq x.0 (codes "stab image 1") then length_line (length x.0 + 1) (cut_line x.1) else Err (At BadLine 0)

-- the bytes of the program and what stands behind their line feed
abbrev pub program_in : List ℕ → Result (List ℕ × List ℕ) TextFault
program_in bytes = header_line (cut_line bytes)
