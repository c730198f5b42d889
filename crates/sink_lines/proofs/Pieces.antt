-- A text that is written piece by piece.
use Rattle.std.proofs.Common.{◌≡◌, ◌++◌, ℕ, List, Option, take, drop, append_assoc, ap, sym, subst, ◌∙◌}
use Rattle.std.proofs.lemmas.List.{take-append-drop}
use Rattle.stab_files.specs.Told.{Appends, AppendsPrefix}
use Rattle.stab_files.proofs.Puts.{appends_prefix_trans, appends_prefix_more}

-- what was written, the next piece and what comes after it
text_is : (text front rest line others : List ℕ) (n : ℕ) → text ≡ front ++ rest → line ≡ take n rest → others ≡ drop n rest → text ≡ front ++ (line ++ others)
text_is text front rest line others n split first second =
    split ∙ ap (λ x. front ++ x) (sym (take-append-drop n rest)) ∙ ap (λ x. front ++ (x ++ drop n rest)) (sym first) ∙ ap (λ x. front ++ (line ++ x)) (sym second)

-- a piece was cut short
pub piece_cut : (a b c : Option (List ℕ)) (text front rest line others : List ℕ) (n : ℕ) → text ≡ front ++ rest → line ≡ take n rest → others ≡ drop n rest → Appends a b front → AppendsPrefix b c line → AppendsPrefix a c text
piece_cut a b c text front rest line others n split first second p q =
    subst (AppendsPrefix a c) (sym (text_is text front rest line others n split first second))
    (appends_prefix_trans a b c front (line ++ others) p (appends_prefix_more b c line others q))

pub piece_whole : (text front rest line others : List ℕ) (n : ℕ) → text ≡ front ++ rest → line ≡ take n rest → others ≡ drop n rest → text ≡ (front ++ line) ++ others
piece_whole text front rest line others n split first second = text_is text front rest line others n split first second ∙ sym (append_assoc front line others)
