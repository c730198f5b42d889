use Rattle.std.proofs.Common.{◌≡◌, ℕ, ℤ, List, ◌+◌, ◌++◌, ◌∷◌, [], ◌∙◌, ap, sym, arith, rules}
use Rattle.std.proofs.lemmas.List.FromFn.{map-range_with_len_more}
use Rattle.mill_text.specs.Mill.{mill_script, probe_number}
use Rattle.mill_text.proofs.script.mill_script.Goals as goal

-- one number more
mill_script-more : (n : ℕ) → mill_script (n + 1) ≡ mill_script n ++ probe_number (n + 1) ∷ []
mill_script-more n = map-range_with_len_more probe_number 1 n (n + 1) (omega arith)

pub loop-before-preserved : goal.loop-before-preserved
loop-before-preserved c =
    let n = c.loop-before.before in
    let pushed : c.push.new.self.items ≡ c.loop-before.script.items ++ c.probe_number.result ∷ [] = search rules in
    pushed
    ∙ ap (λ j. c.loop-before.script.items ++ j ∷ []) c.probe_number.ensures
    ∙ ap (λ (numbers : List ℤ). numbers ++ probe_number (n + 1) ∷ []) c.loop-before.invariant
    ∙ sym (mill_script-more n)
