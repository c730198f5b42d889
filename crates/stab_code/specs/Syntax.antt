-- What a form has, from its head and from what its parts have.
use Rattle.std.specs.Prelude.{ℕ, ◌+◌, ◌==◌, not, List, [], ◌∷◌, ◌++◌, Option, Some, None, max}
use Rattle.std.specs.List.{filter}
use Rattle.stab_code.specs.declared.head.Head.{Head}
use Rattle.stab_code.specs.Heads.{slots_of, variable_of}
use Rattle.stab_code.specs.Trees.{Tree, fold}

abbrev pub one_or_none : Option ℕ → List ℕ
one_or_none None = []
one_or_none (Some x) = x ∷ []

-- the greatest of some depths, 0 if there are none
abbrev pub deepest : List ℕ → ℕ
deepest [] = 0
deepest (d ∷ ds) = max d (deepest ds)

-- how deep a form is: one more than its deepest part, so 1 without parts
abbrev pub depth_from : Head → List ℕ → ℕ
depth_from head depths = deepest depths + 1

abbrev pub depth_of : Tree → ℕ
depth_of t = fold depth_from t

-- each part's slots behind the slot of its own let, which is written first
abbrev pub with_own : List (Option ℕ) → List (List ℕ) → List ℕ
with_own own [] = []
with_own [] (part ∷ parts) = part ++ with_own [] parts
with_own (slot ∷ own) (part ∷ parts) = one_or_none slot ++ (part ++ with_own own parts)

-- the slots of a form's lets, in the order of writing
abbrev pub lets_from : Head → List (List ℕ) → List ℕ
lets_from head lets = with_own (slots_of head) lets

abbrev pub lets_of : Tree → List ℕ
lets_of t = fold lets_from t

-- the slots that a form names, at a variable or at a let
abbrev pub named_from : Head → List (List ℕ) → List ℕ
named_from head named = one_or_none (variable_of head) ++ with_own (slots_of head) named

abbrev pub named_in : Tree → List ℕ
named_in t = fold named_from t

-- some slots without one
abbrev pub without : Option ℕ → List ℕ → List ℕ
without None slots = slots
without (Some x) slots = filter (λ slot. not (slot == x)) slots

-- a let is seen in the parts behind its own
abbrev pub left_open : List (Option ℕ) → List (List ℕ) → List ℕ
left_open own [] = []
left_open [] (part ∷ parts) = part ++ left_open [] parts
left_open (slot ∷ own) (part ∷ parts) = part ++ without slot (left_open own parts)

-- the slots of a form's variables that stand where no let of that form is seen for them
abbrev pub open_from : Head → List (List ℕ) → List ℕ
open_from head slots = one_or_none (variable_of head) ++ left_open (slots_of head) slots

abbrev pub open_in : Tree → List ℕ
open_in t = fold open_from t
