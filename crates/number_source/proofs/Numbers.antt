-- The numbers of answers.
use Rattle.std.proofs.Common.{◌≡◌, ℤ, List, [], ◌∷◌, ◌++◌, ap, sym, ◌∙◌, append_assoc, append-nil}
use Rattle.number_source.specs.declared.came.Came.{Came}
use Rattle.number_source.specs.Came.{numbers_in, numbers_of}

-- one answer more
pub numbers_of_snoc : (answers : List Came) (answer : Came) → numbers_of (answers ++ answer ∷ []) ≡ numbers_of answers ++ numbers_in answer
numbers_of_snoc [] answer = append-nil (numbers_in answer)
numbers_of_snoc (first ∷ answers) answer =
    ap (λ (ns : List ℤ). numbers_in first ++ ns) (numbers_of_snoc answers answer) ∙ sym (append_assoc (numbers_in first) (numbers_of answers) (numbers_in answer))
