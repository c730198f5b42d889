-- Which channels and references have a line, and which sections may stand in a state.
use Rattle.std.specs.Prelude.{ℕ, ◌+◌, ◌&&◌, ◌==◌, Bool, false, nat_le, List, map}
use Rattle.std.specs.List.{list_any}
use Rattle.journal_laws.specs.Known.{Known}
use Rattle.image_lines.specs.declared.line.Line.{Line}
use Rattle.image_lines.specs.declared.line.Line.TheVariants.{Chan, Ref}

abbrev pub is_channel : ℕ → Line → Bool
is_channel c (Chan d) = d.0 == c
is_channel c l = false

abbrev pub is_reference : ℕ → Line → Bool
is_reference r (Ref s v) = s.0 == r
is_reference r l = false

-- a section was entered by a step from 1 up to the cut
abbrev pub is_section : ℕ → ℕ → Bool
is_section cut m = nat_le 1 m && nat_le m cut

-- what has a line, and the sections up to a cut
abbrev pub named_by : ℕ → List Line → Known
named_by cut ls = record { channels = λ c. list_any (is_channel c) ls; references = λ r. list_any (is_reference r) ls; sections = is_section cut }

-- the lines without their places
abbrev pub lines_in : List (ℕ × Line) → List Line
lines_in ls = map (λ (l : ℕ × Line). l.1) ls
