-- The program at the front of an image, and what stands behind it.
use Rattle.std.specs.Prelude.{◌≡◌, ℕ, List, ◌++◌, length, Ok}
use Rattle.image_text.specs.ImageText.{program_text}
use Rattle.image_lines.specs.HeadText.{IsLength}
use Rattle.image_lines.specs.Opening.{program_in}

abbrev pub opening : List ℕ → List ℕ → List ℕ
opening text rest = program_text text ++ rest

-- the program is read from its text and from no other bytes
pub record IsOpened : Type 0 where
  pub written : (text rest : List ℕ) → IsLength (length text) → program_in (opening text rest) ≡ Ok (text, rest)
  pub exact : (bytes text rest : List ℕ) → program_in bytes ≡ Ok (text, rest) → (bytes ≡ opening text rest) × IsLength (length text)
