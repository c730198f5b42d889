-- The text of what stands between the program and the lines of the state.
use Rattle.std.specs.Prelude.{◌≡◌, ℕ, ◌+◌, List, ◌++◌, length, Ok}
use Rattle.std.specs.List.{AllByRecursion}
use Rattle.image_text.specs.ImageText.{next_text, probes_text}
use Rattle.image_lines.specs.Counts.{Counts, counts_in}
use Rattle.image_lines.specs.HeadText.{AreNext, AreProbes, IsProbe}

-- with what stands behind it
abbrev pub counts_text : Counts → List ℕ
counts_text c = probes_text c.script c.used ++ (next_text c.next.cut c.next.thread c.next.chan c.next.reference ++ c.rest)

-- the numbers are within their ranges
pub record AreCounts (c : Counts) : Type 0 where
  pub probes : AreProbes (record { count = length c.script; used = c.used })
  pub script : AllByRecursion IsProbe c.script
  pub next : AreNext c.next

-- what is read has the text for its bytes, and its place is that of what stands behind
pub record IsCounted (at : ℕ) (bytes : List ℕ) (c : Counts) : Type 0 where
  pub bytes_are : bytes ≡ counts_text c
  pub right : AreCounts c
  pub place : c.at + length c.rest ≡ at + length bytes

-- all but the place is read from the text
pub record IsFound (at : ℕ) (c : Counts) : Type 0 where
  pub behind : ℕ
  pub found : counts_in at (counts_text c) ≡ Ok (record { script = c.script; used = c.used; next = c.next; at = behind; rest = c.rest })
