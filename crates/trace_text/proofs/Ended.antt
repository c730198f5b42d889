-- Lines that are each ended by a line feed, joined and split again.
use Rattle.std.proofs.Common.{◌≡◌, ℕ, true, List, [], ◌∷◌, ◌++◌, refl, ap, ◌∙◌}
use Rattle.std.proofs.lemmas.Bool.{and_parts}
use Rattle.trace_text.specs.Text.{ended}
use Rattle.text_lines.specs.Lines.{separated, split}
use Rattle.text_lines.proofs.Splits.{lacks, all_lack, split-first}

-- ended lines are split into the lines and an empty rest
pub split-ended : (lines : List (List ℕ)) → all_lack 10 lines ≡ true → split 10 (ended lines) ≡ lines ++ ([] ∷ [])
split-ended [] h = refl
split-ended (line ∷ lines) h =
    let parts = and_parts (lacks 10 line) (all_lack 10 lines) h in
    split-first 10 line (ended lines) parts.0 ∙ ap (λ ls. line ∷ ls) (split-ended lines parts.1)

-- lines and an empty rest, joined, are the lines, each ended
pub separated-ended : (line : List ℕ) (lines : List (List ℕ)) → separated 10 line (lines ++ ([] ∷ [])) ≡ ended (line ∷ lines)
separated-ended line [] = refl
separated-ended line (next ∷ lines) = ap (λ bs. line ++ (10 ∷ bs)) (separated-ended next lines)
