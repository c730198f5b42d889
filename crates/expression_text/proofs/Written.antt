-- The parts of a form are written one after the other.
use Rattle.std.proofs.Common.{◌≡◌, ℕ, zero, suc, ◌+◌, ◌<◌, List, [], ◌∷◌, ◌++◌, length, drop, get_or, add-one, drop-cons, refl, sym, ap, ◌∙◌, append_assoc}
use Rattle.std.specs.Prelude.{Option, Some, None, slice_get}
use Rattle.std.proofs.lemmas.List.Concat.{flat_map-append}
use Rattle.language.specs.declared.head.Head.{Head}
use Rattle.language.specs.Expression.{Expr, Parts, form, part, parts_of}
use Rattle.language.specs.Forms.{form_in}
use Rattle.expression_text.specs.declared.word.Word.{Word}
use Rattle.expression_text.specs.Spelling.{count, items_of, opening, spell, spell_parts}
use Rattle.expression_text.specs.WordText.{before, name, numbers, spaced, words_text}

pub words_append : (a b : List Word) → words_text (a ++ b) ≡ words_text a ++ words_text b
words_append a b = flat_map-append (λ (w : Word). spaced (name w ∷ numbers w)) a b

unpack : (items : List (Option ℕ)) (i : ℕ) (e : Expr) (ps : Parts) → spell_parts (drop i items) (part e ps) ≡ before (slice_get items i) ++ (spell e ++ spell_parts (drop (suc i) items) ps)
unpack [] zero e ps = refl
unpack [] (suc i) e ps = refl
unpack (o ∷ os) zero e ps = refl
unpack (o ∷ os) (suc i) e ps = unpack os i e ps

-- what is written of the first parts, and what is still to write
abbrev pub Written : List ℕ → List ℕ → List (Option ℕ) → List Expr → ℕ → Type 0
Written first out items es i = first ++ words_text (spell_parts items (parts_of es)) ≡ out ++ words_text (spell_parts (drop i items) (parts_of (drop i es)))

pub one_written : (first out mid new : List ℕ) (items : List (Option ℕ)) (es : List Expr) (i : ℕ) (d : Expr) → Written first out items es i → i < length es
    → mid ≡ out ++ words_text (before (slice_get items i)) → new ≡ mid ++ words_text (spell (get_or es i d)) → Written first new items es (i + 1)
one_written first out mid new items es i d h lt item here =
    let e = get_or es i d in
    let rest = spell_parts (drop (suc i) items) (parts_of (drop (suc i) es)) in
    let first_word = words_text (before (slice_get items i)) in
    h
    ∙ ap (λ xs. out ++ words_text (spell_parts (drop i items) (parts_of xs))) (drop-cons es i d lt)
    ∙ ap (λ ws. out ++ words_text ws) (unpack items i e (parts_of (drop (suc i) es)))
    ∙ ap (λ t. out ++ t) (words_append (before (slice_get items i)) (spell e ++ rest))
    ∙ ap (λ t. out ++ (first_word ++ t)) (words_append (spell e) rest)
    ∙ sym (append_assoc out first_word (words_text (spell e) ++ words_text rest))
    ∙ ap (λ t. t ++ (words_text (spell e) ++ words_text rest)) (sym item)
    ∙ sym (append_assoc mid (words_text (spell e)) (words_text rest))
    ∙ ap (λ t. t ++ words_text rest) (sym here)
    ∙ ap (λ k. new ++ words_text (spell_parts (drop k items) (parts_of (drop k es)))) (sym (add-one i))

form_is : (e : Expr) (h : Head) (ps : Parts) → form_in e ≡ Some (h, ps) → e ≡ form h ps
form_is (form j qs) h ps is =
    let same : (j, qs) ≡ (h, ps) = cc in
    ap (λ (p : Head × Parts). form p.0 p.1) same
form_is e h ps is = absurd (let no : None ≡ Some (h, ps) = is in cc)

count_is : (es : List Expr) → count (parts_of es) ≡ length es
count_is [] = refl
count_is (e ∷ es) = ap suc (count_is es)

-- a form is written as its word and its parts
pub form_written : (out mid new : List ℕ) (e : Expr) (h : Head) (es : List Expr) (items : List (Option ℕ)) → form_in e ≡ Some (h, parts_of es) → items ≡ items_of h
    → mid ≡ out ++ words_text (opening h (length es) ∷ []) → new ≡ mid ++ words_text (spell_parts items (parts_of es)) → new ≡ out ++ words_text (spell e)
form_written out mid new e h es items is slots first rest =
    let w = opening h (length es) in
    let ps = parts_of es in
    rest
    ∙ ap (λ t. t ++ words_text (spell_parts items ps)) first
    ∙ append_assoc out (words_text (w ∷ [])) (words_text (spell_parts items ps))
    ∙ ap (λ t. out ++ t) (sym (words_append (w ∷ []) (spell_parts items ps)))
    ∙ ap (λ xs. out ++ words_text (w ∷ spell_parts xs ps)) slots
    ∙ ap (λ n. out ++ words_text (opening h n ∷ spell_parts (items_of h) ps)) (sym (count_is es))
    ∙ ap (λ x. out ++ words_text (spell x)) (sym (form_is e h ps is))
