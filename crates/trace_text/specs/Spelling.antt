-- Words that are added to a line.
use Rattle.std.specs.Prelude.{ℕ, List, [], ◌∷◌, ◌++◌}

-- a space and a word, for each of the words
abbrev pub behind : List (List ℕ) → List ℕ
behind [] = []
behind (word ∷ []) = 32 ∷ word
behind (word ∷ next ∷ words) = 32 ∷ (word ++ behind (next ∷ words))
