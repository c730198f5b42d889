-- Texts that were written one behind the other.
use Rattle.std.proofs.Common.{◌≡◌, ℕ, List, ◌++◌, ap, ◌∙◌, append_assoc}

pub three_behind : (old a b d one two three : List ℕ) → one ≡ old ++ a → two ≡ one ++ b → three ≡ two ++ d → three ≡ old ++ (a ++ (b ++ d))
three_behind old a b d one two three h k m =
    m ∙ ap (λ (t : List ℕ). t ++ d) (k ∙ ap (λ (t : List ℕ). t ++ b) h) ∙ append_assoc (old ++ a) b d ∙ append_assoc old a (b ++ d)
