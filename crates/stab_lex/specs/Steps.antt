-- What the steps through a text between quotes say to each other, and which rows of a table a name is looked for in.
use Rattle.std.specs.Prelude.{◌≡◌, ℕ, ◌==◌, List, [], ◌∷◌, length, IsFalse, ◌⊎◌, if◌then◌else◌}
use Rattle.stab_lex.specs.declared.kind.Kind.{Kind}
use Rattle.stab_lex.specs.declared.token.LexFault.{LexFault}
use Rattle.stab_lex.specs.declared.token.LexFault.TheVariants.{BadChar, OpenText}
use Rattle.stab_lex.specs.Pieces.{is_escaped, EndsOpen}
use Rattle.stab_lex.specs.Place.{Place}

-- behind the backslash the text ends, or stands a character that isn't escaped
abbrev pub IsEscapeFault : LexFault → ℕ → ℕ → Place → Type 0
IsEscapeFault fault quote backslash place =
    ((fault ≡ OpenText quote) × (place.rest ≡ []))
    ⊎ ((fault ≡ BadChar backslash) × ((c : ℕ) × (after : List ℕ) × (place.rest ≡ c ∷ after) × IsFalse (is_escaped c)))

-- the text isn't closed, or stands before a backslash with a character that isn't escaped
abbrev pub IsTextFault : LexFault → ℕ → Place → Type 0
IsTextFault fault quote place =
    ((fault ≡ OpenText quote) × EndsOpen place.rest)
    ⊎ ((fault ≡ BadChar place.at) × ((c : ℕ) × (after : List ℕ) × (place.rest ≡ 92 ∷ c ∷ after) × IsFalse (is_escaped c)))

-- the rows whose spelling has so many bytes
abbrev pub of_length : ℕ → List (List ℕ × Kind) → List (List ℕ × Kind)
of_length n [] = []
of_length n (row ∷ rows) = if length row.0 == n then row ∷ of_length n rows else of_length n rows
