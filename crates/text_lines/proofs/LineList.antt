-- The lines that say something.
use Rattle.std.proofs.Common.{◌≡◌, ℕ, suc, ◌+◌, ◌-◌, ◌*◌, ◌<◌, ◌≤◌, Bool, true, false, cond, eqb, List, [], ◌∷◌, length, refl, sym, ap, ◌∙◌, arith}
use Rattle.text_lines.proofs.Splits.{pieces}
use Rattle.text_lines.specs.Lines.{longer, split, trimmed, with_line, lines_from, lines_of}

-- how many bytes pieces take, each with a mark behind it
abbrev pub size : List (List ℕ) → ℕ
size [] = 0
size (piece ∷ pieces) = length piece + 1 + size pieces

size-longer : (b : ℕ) (piece : List ℕ) (pieces : List (List ℕ)) → size (longer b (piece ∷ pieces)) ≡ size (piece ∷ pieces) + 1
size-longer b piece pieces = omega arith

pub size-split : (mark : ℕ) (bytes : List ℕ) → size (split mark bytes) ≡ length bytes + 1
size-split mark [] = refl
size-split mark (b ∷ bytes) =
    let more = size-split mark bytes in
    let some = pieces mark bytes in
    elim (eqb b mark) as (λ t. size (cond t ([] ∷ split mark bytes) (longer b (split mark bytes))) ≡ length (b ∷ bytes) + 1) [
      | true ↦ omega (arith, more)
      | false ↦ rw some.are (size-longer b some.first some.others ∙ omega (arith, rw some.are at more))
    ]

-- a line that says something has a byte at least, and its line feed
few_with : (at : ℕ) (piece text : List ℕ) (others : List (ℕ × List ℕ)) (rest : ℕ) → trimmed piece ≡ text → 2 * length others ≤ rest → 2 * length (with_line at text others) ≤ length piece + 1 + rest
few_with at piece [] others rest e few = omega arith
few_with at [] (b ∷ text) others rest e few = cc
few_with at (p ∷ piece) (b ∷ text) others rest e few = omega arith

pub few_lines : (at : ℕ) (pieces : List (List ℕ)) → 2 * length (lines_from at pieces) ≤ size pieces
few_lines at [] = omega arith
few_lines at (piece ∷ pieces) =
    few_with at piece (trimmed piece) (lines_from (at + length piece + 1) pieces) (size pieces) refl (few_lines (at + length piece + 1) pieces)

-- there are few lines
pub few-lines_of : (bytes : List ℕ) → 2 * length (lines_of bytes) ≤ length bytes + 1
few-lines_of bytes = omega (arith, few_lines 0 (split 10 bytes), size-split 10 bytes)
