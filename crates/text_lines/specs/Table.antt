-- Tables: what words name.
use Rattle.std.specs.Prelude.{ℕ, List, [], ◌∷◌, Option, Some, None, if◌then◌else◌}
use Rattle.std.specs.Str.{bytes_eq}

-- what the first row says that has this word for its name
abbrev pub named_in : {T : Type 0} → List (List ℕ × T) → List ℕ → Option T
named_in [] word = None
named_in (row ∷ rows) word = if bytes_eq row.0 word then Some row.1 else named_in rows word
