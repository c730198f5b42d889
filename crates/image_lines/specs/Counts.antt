-- The script and the next numbers, which stand between the program and the lines of the state.
use Rattle.std.specs.Prelude.{ℕ, ℤ, zero, suc, ◌+◌, List, [], ◌∷◌, ◌++◌, length, Option, Some, None, Result, Ok, Err}
use Rattle.text_lines.specs.Lines.{split}
use Rattle.image_text.specs.declared.fault.LineFault.{LineFault}
use Rattle.image_lines.specs.declared.body.TextFault.{TextFault}
use Rattle.image_lines.specs.declared.body.TextFault.TheVariants.{At, NoEnd}
use Rattle.image_lines.specs.declared.counts.Counts.{Counts as HeldCounts}
use Rattle.image_lines.specs.declared.counts.Script.{Script as HeldScript}
use Rattle.image_lines.specs.declared.head.Next.{Next}
use Rattle.image_lines.specs.declared.head.Probes.{Probes}
use Rattle.image_lines.specs.Head.{next_in, probe_in, probes_in}
use Rattle.image_lines.specs.Opening.{cut_line}

-- the numbers of a script, and what stands behind them, from this place on
pub record Script : Type 0 where
  pub numbers : List ℤ
  pub at : ℕ
  pub rest : List ℕ

-- these numbers before others
abbrev pub behind : List ℤ → Result Script TextFault → Result Script TextFault
behind zs (Ok s) = Ok (record { numbers = zs ++ s.numbers; at = s.at; rest = s.rest })
behind zs (Err k) = Err k

abbrev pub by_probe : Result ℤ LineFault → ℕ → Result Script TextFault → Result Script TextFault
by_probe (Err k) at others = Err (At k at)
by_probe (Ok z) at others = behind (z ∷ []) others

abbrev pub probe_line : ℕ → Option (List ℕ × List ℕ) → (ℕ → List ℕ → Result Script TextFault) → Result Script TextFault
probe_line at None others = Err NoEnd
probe_line at (Some x) others = by_probe (probe_in (split 32 x.0)) at (others (at + length x.0 + 1) x.1)

-- so many numbers from the place `at` on
abbrev pub script_in : ℕ → ℕ → List ℕ → Result Script TextFault
script_in zero at bytes = Ok (record { numbers = []; at = at; rest = bytes })
script_in (suc n) at bytes = probe_line at (cut_line bytes) (script_in n)

pub record Counts : Type 0 where
  pub script : List ℤ
  pub used : ℕ
  pub next : Next
  pub at : ℕ
  pub rest : List ℕ

abbrev pub script_of : HeldScript → Script
script_of s = record { numbers = s.numbers.items; at = s.at; rest = s.rest.now }

abbrev pub counts_of : HeldCounts → Counts
counts_of c = record { script = c.script.items; used = c.used; next = c.next; at = c.at; rest = c.rest.now }

abbrev pub by_next : Result Next LineFault → ℕ → List ℤ → ℕ → ℕ → List ℕ → Result Counts TextFault
by_next (Err k) used script at next rest = Err (At k at)
by_next (Ok n) used script at next rest = Ok (record { script = script; used = used; next = n; at = next; rest = rest })

abbrev pub next_line : ℕ → List ℤ → ℕ → Option (List ℕ × List ℕ) → Result Counts TextFault
next_line used script at None = Err NoEnd
next_line used script at (Some x) = by_next (next_in (split 32 x.0)) used script at (at + length x.0 + 1) x.1

abbrev pub followed : ℕ → Script → Result Counts TextFault
followed used s = next_line used s.numbers s.at (cut_line s.rest)

abbrev pub after_script : ℕ → Result Script TextFault → Result Counts TextFault
after_script used (Err k) = Err k
after_script used (Ok s) = followed used s

abbrev pub scripted : Probes → ℕ → List ℕ → Result Counts TextFault
scripted p at rest = after_script p.used (script_in p.count at rest)

abbrev pub by_probes : Result Probes LineFault → ℕ → ℕ → List ℕ → Result Counts TextFault
by_probes (Err k) at next rest = Err (At k at)
by_probes (Ok p) at next rest = scripted p next rest

abbrev pub probes_line : ℕ → Option (List ℕ × List ℕ) → Result Counts TextFault
probes_line at None = Err NoEnd
probes_line at (Some x) = by_probes (probes_in (split 32 x.0)) at (at + length x.0 + 1) x.1

-- what the lines between the program and the state say
abbrev pub counts_in : ℕ → List ℕ → Result Counts TextFault
counts_in at bytes = probes_line at (cut_line bytes)
