-- What is stored, as lists.
use Rattle.std.specs.Prelude.{◌≡◌, ℕ, zero, suc, ◌≤◌, List, [], ◌∷◌, length}
use Rattle.std.specs.List.{slice_range}

-- the lists that end at these places, of which the first begins at the given one and each other where the one before it ends
abbrev pub lists_in : {A : Type 0} → ℕ → List ℕ → List A → List (List A)
lists_in from [] items = []
lists_in from (to ∷ ends) items = slice_range items from to ∷ lists_in to ends items

-- the ends rise from a place on, and the last one is that of all items
abbrev pub AreEnds : {A : Type 0} → ℕ → List ℕ → List A → Type 0
AreEnds from [] items = from ≡ length items
AreEnds from (to ∷ ends) items = (from ≤ to) × AreEnds to ends items

-- where the list of a number begins
abbrev pub start_of : ℕ → List ℕ → ℕ → ℕ
start_of from ends zero = from
start_of from [] (suc i) = from
start_of from (to ∷ ends) (suc i) = start_of to ends i
