-- Lines: what stands between line feeds, and in a line between blanks.
use Rattle.std.specs.Prelude.{ℕ, ◌+◌, Bool, ◌==◌, ◌||◌, List, [], ◌∷◌, ◌++◌, length, reverse, if◌then◌else◌}

-- with one byte more at the front of the first piece
abbrev pub longer : ℕ → List (List ℕ) → List (List ℕ)
longer b [] = (b ∷ []) ∷ []
longer b (piece ∷ pieces) = (b ∷ piece) ∷ pieces

-- the pieces between the bytes that are the mark; there is always one
abbrev pub split : ℕ → List ℕ → List (List ℕ)
split mark [] = [] ∷ []
split mark (b ∷ bytes) = if b == mark then [] ∷ split mark bytes else longer b (split mark bytes)

-- pieces with one mark between them
abbrev pub separated : ℕ → List ℕ → List (List ℕ) → List ℕ
separated mark piece [] = piece
separated mark piece (next ∷ pieces) = piece ++ (mark ∷ separated mark next pieces)

-- space and tab
abbrev pub is_blank : ℕ → Bool
is_blank b = b == 32 || b == 9

-- without the blanks at the front
abbrev pub trim_front : List ℕ → List ℕ
trim_front [] = []
trim_front (b ∷ bytes) = if is_blank b then trim_front bytes else b ∷ bytes

-- without the one carriage return that may stand at the front
abbrev pub behind_return : List ℕ → List ℕ
behind_return [] = []
behind_return (b ∷ bytes) = if b == 13 then bytes else b ∷ bytes

-- a line without the carriage return that may end it, and then without the blanks at both ends
abbrev pub trimmed : List ℕ → List ℕ
trimmed line = trim_front (reverse (trim_front (behind_return (reverse line))))

-- before other lines, what a line that begins at `at` says between its blanks, if it says something
abbrev pub with_line : ℕ → List ℕ → List (ℕ × List ℕ) → List (ℕ × List ℕ)
with_line at [] others = others
with_line at (b ∷ text) others = (at, b ∷ text) ∷ others

-- the lines that say something, each with the place of its first byte; the first piece begins at `at`
abbrev pub lines_from : ℕ → List (List ℕ) → List (ℕ × List ℕ)
lines_from at [] = []
lines_from at (piece ∷ pieces) = with_line at (trimmed piece) (lines_from (at + length piece + 1) pieces)

-- The lines of bytes that say something: the places of their first bytes, and what they say between their blanks.
abbrev pub lines_of : List ℕ → List (ℕ × List ℕ)
lines_of bytes = lines_from 0 (split 10 bytes)
