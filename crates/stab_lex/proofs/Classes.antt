-- No character begins pieces of two kinds.
use Rattle.std.proofs.Common.{◌≡◌, ℕ, ◌<◌, Bool, true, false, cond, ltb, List, [], ◌∷◌, refl, sym, ap, ◌∙◌, arith, subst, ⊎_elim, Some}
use Rattle.std.specs.Prelude.{IsSome, is_some, not, ◌||◌, ◌&&◌, ◌==◌}
use Rattle.std.specs.Char.{is_ascii_digit, is_ascii_alphabetic}
use Rattle.std.specs.List.{list_all}
use Rattle.std.specs.Str.{bytes_eq}
use Rattle.std.proofs.lemmas.Bool.{false≢true, eqb-true, leb-true, and_parts, or_cases, ltb-true, agree_below, agree_below_at, cases_Bool}
use Rattle.unicode_ident.proofs.IdentLemmas.{is_xid_start-ascii}
use Rattle.stab_lex.specs.declared.kind.Kind.{Kind}
use Rattle.stab_lex.specs.Kinds.{kind_in, marks, mark_kind}
use Rattle.stab_lex.specs.Pieces.{is_blank, starts_name}

-- what a name of ASCII begins with
abbrev ascii_start : ℕ → Bool
ascii_start c = is_ascii_alphabetic c || c == 95

pub starts_name-ascii : (c : ℕ) → c < 128 → starts_name c ≡ ascii_start c
starts_name-ascii c low = ap (λ b. b || c == 95) (is_xid_start-ascii c low)

-- none of two tests of ASCII characters meet
apart : (p q : ℕ → Bool) → agree_below (λ c. p c && q c) (λ _. false) 128 ≡ true → (c : ℕ) → c < 128 → p c ≡ true → q c ≡ false
apart p q test c low passes =
    subst (λ b. (b && q c) ≡ false) passes (agree_below_at (λ x. p x && q x) (λ _. false) 128 c test low)

blank_low : (c : ℕ) → is_blank c ≡ true → c < 128
blank_low c blank =
    ⊎_elim
    (λ h. ⊎_elim
    (λ k. ⊎_elim (λ a. let e = eqb-true c 32 a in omega (arith, e)) (λ b. let e = eqb-true c 9 b in omega (arith, e)) (or_cases (c == 32) (c == 9) k))
    (λ k. let e = eqb-true c 10 k in omega (arith, e))
    (or_cases (c == 32 || c == 9) (c == 10) h))
    (λ h. let e = eqb-true c 13 h in omega (arith, e))
    (or_cases (c == 32 || c == 9 || c == 10) (c == 13) blank)

digit_low : (c : ℕ) → is_ascii_digit c ≡ true → c < 128
digit_low c digit =
    let parts = and_parts _ _ digit in
    let low = leb-true c 57 parts.1 in
    omega (arith, low)

pub blank_no_name : (c : ℕ) → is_blank c ≡ true → starts_name c ≡ false
blank_no_name c blank = starts_name-ascii c (blank_low c blank) ∙ apart is_blank ascii_start refl c (blank_low c blank) blank

pub name_no_blank : (c : ℕ) → starts_name c ≡ true → is_blank c ≡ false
name_no_blank c name = ⊎_elim (λ blank. absurd (false≢true (sym (blank_no_name c blank) ∙ name))) (λ no. no) (cases_Bool (is_blank c))

pub digit_no_name : (c : ℕ) → is_ascii_digit c ≡ true → starts_name c ≡ false
digit_no_name c digit = starts_name-ascii c (digit_low c digit) ∙ apart is_ascii_digit ascii_start refl c (digit_low c digit) digit

pub digit_no_blank : (c : ℕ) → is_ascii_digit c ≡ true → is_blank c ≡ false
digit_no_blank c digit = apart is_ascii_digit is_blank refl c (digit_low c digit) digit

pub quote_no_name : starts_name 34 ≡ false
quote_no_name = starts_name-ascii 34 (omega arith)

-- no blank, name, number or text begins with the character, as a test
abbrev pub is_other : ℕ → Bool
is_other c = not (is_blank c || starts_name c || is_ascii_digit c || c == 34)

-- the same of ASCII characters
abbrev is_ascii_other : ℕ → Bool
is_ascii_other c = ltb c 128 && not (is_blank c || ascii_start c || is_ascii_digit c || c == 34)

is_other-ascii : (c : ℕ) → is_ascii_other c ≡ true → is_other c ≡ true
is_other-ascii c other =
    let parts = and_parts _ _ other in
    ap (λ b. not (is_blank c || b || is_ascii_digit c || c == 34)) (starts_name-ascii c (ltb-true c 128 parts.0)) ∙ parts.1

-- the first characters of the rows pass
abbrev begins_other : List ℕ → Bool
begins_other [] = false
begins_other (c ∷ cs) = is_ascii_other c

mark_in_other : (rows : List (List ℕ × Kind)) (c : ℕ) (cs : List ℕ) → list_all (λ (row : List ℕ × Kind). begins_other row.0) rows ≡ true → IsSome (kind_in rows (c ∷ cs)) → is_other c ≡ true
mark_in_other [] c cs rows some = absurd (false≢true some)
mark_in_other (row ∷ rows) c cs all some =
    let parts = and_parts _ _ all in
    ⊎_elim
    (λ same. first row.0 parts.0 same)
    (λ differs. mark_in_other rows c cs parts.1 (sym (ap (λ t. is_some (cond t (Some row.1) (kind_in rows (c ∷ cs)))) differs) ∙ some))
    (cases_Bool (bytes_eq row.0 (c ∷ cs)))
  where
    first : (spelled : List ℕ) → begins_other spelled ≡ true → bytes_eq spelled (c ∷ cs) ≡ true → is_other c ≡ true
    first [] other same = absurd (false≢true other)
    first (x ∷ xs) other same = is_other-ascii c (subst (λ y. is_ascii_other y ≡ true) (eqb-true x c (and_parts _ _ same).0) other)

pub mark_other : (c : ℕ) (cs : List ℕ) → IsSome (mark_kind (c ∷ cs)) → is_other c ≡ true
mark_other c cs some = mark_in_other marks c cs refl some
