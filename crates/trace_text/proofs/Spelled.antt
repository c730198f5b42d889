-- A line that was spelled piece by piece.
use Rattle.std.proofs.Common.{◌≡◌, ℕ, List, [], ◌∷◌, ◌++◌, refl, sym, ap, ◌∙◌, append_assoc}
use Rattle.std.proofs.lemmas.List.{append-nil}
use Rattle.trace_text.specs.Spelling.{behind}
use Rattle.text_lines.specs.Lines.{separated}

separated-behind : (word : List ℕ) (words : List (List ℕ)) → separated 32 word words ≡ word ++ behind words
separated-behind word [] = sym (append-nil word)
separated-behind word (next ∷ []) = refl
separated-behind word (next ∷ another ∷ words) = ap (λ bytes. word ++ (32 ∷ bytes)) (separated-behind next (another ∷ words))

to_the_right : (a b c d e f g : List ℕ) → (((((a ++ b) ++ c) ++ d) ++ e) ++ f) ++ g ≡ a ++ (b ++ (c ++ (d ++ (e ++ (f ++ g)))))
to_the_right a b c d e f g = simp append_assoc

regrouped : (sign q w verb rest : List ℕ) → (((((([] ++ sign) ++ (32 ∷ q)) ++ (32 ∷ 119 ∷ [])) ++ w) ++ (32 ∷ [])) ++ verb) ++ rest ≡ sign ++ (32 ∷ (q ++ (32 ∷ 119 ∷ (w ++ (32 ∷ (verb ++ rest))))))
regrouped sign q w verb rest = to_the_right sign (32 ∷ q) (32 ∷ 119 ∷ []) w (32 ∷ []) verb rest

pub spelled : (sign q w verb : List ℕ) (ns : List (List ℕ)) (a b c d e f g h i : List ℕ) → a ≡ [] → b ≡ a ++ sign → c ≡ b ++ (32 ∷ q) → d ≡ c ++ (32 ∷ 119 ∷ []) → e ≡ d ++ w → f ≡ e ++ (32 ∷ []) → g ≡ f ++ verb → h ≡ g ++ behind ns → i ≡ h ++ (10 ∷ []) → i ≡ separated 32 sign (q ∷ (119 ∷ w) ∷ verb ∷ ns) ++ (10 ∷ [])
spelled sign q w verb ns a b c d e f g h i ea eb ec ed ee ef eg eh ei =
    let all : h ≡ (((((([] ++ sign) ++ (32 ∷ q)) ++ (32 ∷ 119 ∷ [])) ++ w) ++ (32 ∷ [])) ++ verb) ++ behind ns =
    eh ∙ ap (λ x. x ++ behind ns) (eg ∙ ap (λ x. x ++ verb) (ef ∙ ap (λ x. x ++ (32 ∷ [])) (ee ∙ ap (λ x. x ++ w) (ed ∙ ap (λ x. x ++ (32 ∷ 119 ∷ [])) (ec ∙ ap (λ x. x ++ (32 ∷ q)) (eb ∙ ap (λ x. x ++ sign) ea)))))) in
    ei ∙ ap (λ x. x ++ (10 ∷ [])) (all ∙ regrouped sign q w verb (behind ns) ∙ ap (λ x. sign ++ (32 ∷ (q ++ (32 ∷ 119 ∷ (w ++ (32 ∷ x)))))) (sym (separated-behind verb ns)))
