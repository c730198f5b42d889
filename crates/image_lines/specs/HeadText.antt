-- The texts of the lines before those of a state, without their line feeds.
use Rattle.std.specs.Prelude.{ℕ, ℤ, ◌≤◌, List, [], ◌∷◌, ◌++◌, FitsSigned, codes, decimal}
use Rattle.std.specs.Fmt.{signed_decimal}
use Rattle.std.specs.Int.{w64}
use Rattle.expression_text.specs.WordText.{spaced}
use Rattle.image_lines.specs.declared.head.Next.{Next}
use Rattle.image_lines.specs.declared.head.Probes.{Probes}

abbrev pub length_text : ℕ → List ℕ
length_text n = codes "program" ++ spaced (decimal n ∷ [])

abbrev pub IsLength : ℕ → Type 0
IsLength n = n ≤ 1048576

abbrev pub probes_text : Probes → List ℕ
probes_text p = codes "probes" ++ spaced (decimal p.count ∷ decimal p.used ∷ [])

abbrev pub AreProbes : Probes → Type 0
AreProbes p = (p.count ≤ 524288) × (p.used ≤ 4294967295)

abbrev pub probe_text : ℤ → List ℕ
probe_text z = signed_decimal z

abbrev pub IsProbe : ℤ → Type 0
IsProbe z = FitsSigned w64 z

abbrev pub next_text : Next → List ℕ
next_text n = codes "next" ++ spaced (decimal n.cut ∷ decimal n.thread ∷ decimal n.chan ∷ decimal n.reference ∷ [])

-- the next number of a thread, a channel or a reference
abbrev pub IsNext : ℕ → Type 0
IsNext n = (1 ≤ n) × (n ≤ 4000000001)

abbrev pub AreNext : Next → Type 0
AreNext n = (n.cut ≤ 4294967295) × IsNext n.thread × IsNext n.chan × IsNext n.reference
