-- The lines of threads that failed, one after the other.
use Rattle.std.proofs.Common.{◌≡◌, ℕ, ◌+◌, List, ◌++◌, sym, ap, ◌∙◌, add-one, append_assoc}
use Rattle.commit_book.specs.Book.{BookView}
use Rattle.book_text.specs.Written.{fault_line_of, fault_lines}

-- the line of one thread more
pub one_more : (b : BookView) (t : ℕ) (start before after : List ℕ) → before ≡ start ++ fault_lines b t → after ≡ before ++ fault_line_of b t → after ≡ start ++ fault_lines b (t + 1)
one_more b t start before after so_far line =
    line ∙ ap (λ text. text ++ fault_line_of b t) so_far ∙ append_assoc start (fault_lines b t) (fault_line_of b t) ∙ ap (λ n. start ++ fault_lines b n) (sym (add-one t))
