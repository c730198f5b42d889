-- The pieces of a word, and the numbers that may stand in it.
use Rattle.std.specs.Prelude.{ℕ, ◌≤◌, List, ◌∷◌, FitsSigned}
use Rattle.std.specs.List.{AllByRecursion, flat_map}
use Rattle.std.specs.Int.{w64}
use Rattle.expression_text.specs.declared.word.Word.{Word}
use Rattle.expression_text.specs.declared.word.Word.TheVariants.{Int, Text, Chan, Ref, Var, Block, Let, Call, Spawn, Stable, Section}
use Rattle.expression_text.specs.WordText.{name, numbers}

-- the name of a word and its numbers
abbrev pub pieces : Word → List (List ℕ)
pieces w = name w ∷ numbers w

abbrev pub all_pieces : List Word → List (List ℕ)
all_pieces ws = flat_map pieces ws

-- a number of 32 bits
abbrev pub IsCount : ℕ → Type 0
IsCount n = n ≤ 4294967295

-- the number of a channel or a reference
abbrev pub IsName : ℕ → Type 0
IsName n = (1 ≤ n) × (n ≤ 4000000000)

-- the numbers of a word are within their ranges
abbrev pub IsInRange : Word → Type 0
IsInRange (Int n) = FitsSigned w64 n
IsInRange (Text t) = IsCount t.0
IsInRange (Chan c) = IsName c.0
IsInRange (Ref r) = IsName r.0
IsInRange (Var x) = IsCount x
IsInRange (Block n) = IsCount n
IsInRange (Let x) = IsCount x
IsInRange (Call f n) = IsCount f.0 × IsCount n
IsInRange (Spawn f n) = IsCount f.0 × IsCount n
IsInRange (Stable f n) = IsCount f.0 × IsCount n
IsInRange (Section m) = IsCount m.0
IsInRange w = Unit {0}

abbrev pub AreInRange : List Word → Type 0
AreInRange ws = AllByRecursion IsInRange ws
