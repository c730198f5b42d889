-- What stands between the quotes of a text is what it stands for.
use Rattle.std.proofs.Common.{◌≡◌, ℕ, append_assoc, Bool, true, false, ◌||◌, ◌==◌, List, [], ◌∷◌, ◌++◌, drop, refl, ap, ◌∙◌}
use Rattle.std.specs.Prelude.{encode_utf8_all, if◌then◌else◌}
use Rattle.stab_lex.specs.Pieces.{IsTextOf, escaped, escaped_char}
use Rattle.stab_parse.specs.declared.symbol.Span.{Span}
use Rattle.scope_check.specs.Names.{named, text_at, up_to_quote}

-- a character that is written with a backslash, or without one
between-char : (c : ℕ) (rest : List ℕ) (quote slash : Bool) → (c == 34) ≡ quote → (c == 92) ≡ slash → up_to_quote false ((if quote || slash then 92 ∷ c ∷ [] else c ∷ []) ++ rest) ≡ c ∷ up_to_quote false rest
between-char c rest true slash e f = refl
between-char c rest false true e f = refl
between-char c rest false false e f =
    ap (λ b. if b then [] else if c == 92 then up_to_quote true rest else c ∷ up_to_quote false rest) e ∙ ap (λ b. if b then up_to_quote true rest else c ∷ up_to_quote false rest) f

between : (cs : List ℕ) → up_to_quote false (escaped cs ++ 34 ∷ []) ≡ cs
between [] = refl
between (c ∷ cs) =
    ap (up_to_quote false) (append_assoc (escaped_char c) (escaped cs) (34 ∷ []))
    ∙ between-char c (escaped cs ++ 34 ∷ []) (c == 34) (c == 92) refl refl ∙ ap (λ l. c ∷ l) (between cs)

pub text-characters : (bytes : List ℕ) (span : Span) (cs : List ℕ) → IsTextOf (named bytes span) cs → text_at bytes span ≡ encode_utf8_all cs
text-characters bytes span cs is = ap (λ l. encode_utf8_all (up_to_quote false (drop 1 l))) is.text ∙ ap encode_utf8_all (between cs)
