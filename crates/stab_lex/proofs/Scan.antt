-- What a text begins with: a function, by which a text has one reading at most.
use Rattle.std.proofs.Common.{◌≡◌, ℕ, ◌^◌, ◌<◌, ◌≤◌, Bool, true, false, cond, leb, List, [], ◌∷◌, ◌++◌, refl, sym, ap, ◌∙◌, subst, append_assoc, ⊎_elim}
use Rattle.std.specs.Prelude.{IsTrue, IsFalse, IsSome, IsNone, is_some, ◌||◌, ◌&&◌, ◌==◌, ◌≢◌}
use Rattle.std.specs.Char.{is_ascii_digit}
use Rattle.std.proofs.lemmas.Bool.{false≢true, eqb-true, eqb-false, le-leb, lt-leb, ne_eqb, and_parts, or_parts, not-true, cond-true, cond-false, cases_Bool}
use Rattle.stab_lex.specs.Kinds.{mark_kind}
use Rattle.stab_lex.specs.Pieces.{Piece, Blank, Comment, Word, Numeral, Quoted, Mark, spelling, Stands, Obstacle, Stray, Great, Open, BadEscape, obstacle_spelling, Blocks, Pass, Stops, is_blank, is_in_line, is_escaped, starts_name, continues_name, decimal, escaped, escaped_char, IsOther, IsLongest, EndsOpen}
use Rattle.stab_lex.proofs.Classes.{name_no_blank, digit_no_name, digit_no_blank, quote_no_name, is_other, mark_other}
use Rattle.stab_lex.proofs.Marks.{three_no_mark}

-- what a text begins with, and the characters after it
pub data Seen : Type 0 where
  Ended : Seen
  Found : Piece → List ℕ → Seen
  Stuck : Obstacle → List ℕ → Seen

-- the front of the characters that pass a test, and the rest
abbrev run : (ℕ → Bool) → List ℕ → List ℕ × List ℕ
run test [] = ([], [])
run test (c ∷ cs) = cond (test c) (c ∷ (run test cs).0, (run test cs).1) ([], c ∷ cs)

abbrev number_of : List ℕ × List ℕ → Seen
number_of r = cond (leb (decimal r.0) (2 ^ 63)) (Found (Numeral r.0) r.1) (Stuck (Great r.0) r.1)

-- a character more, in front of what was read of a text
abbrev with_char : ℕ → Seen → Seen
with_char c (Found (Quoted cs) rest) = Found (Quoted (c ∷ cs)) rest
with_char c (Stuck (Open cs) rest) = Stuck (Open (c ∷ cs)) rest
with_char c (Stuck (BadEscape cs d) rest) = Stuck (BadEscape (c ∷ cs) d) rest
with_char c other = other

-- what stands behind an opening quote
text_of : List ℕ → Seen
text_of [] = Stuck (Open []) []
text_of (c ∷ []) = cond (c == 34) (Found (Quoted []) []) (cond (c == 10 || c == 92) (Stuck (Open []) (c ∷ [])) (with_char c (text_of [])))
text_of (c ∷ d ∷ cs) =
    cond (c == 34) (Found (Quoted []) (d ∷ cs))
    (cond (c == 10) (Stuck (Open []) (c ∷ d ∷ cs))
    (cond (c == 92) (cond (is_escaped d) (with_char d (text_of cs)) (Stuck (BadEscape [] d) cs))
    (with_char c (text_of (d ∷ cs)))))

abbrev single_of : ℕ → List ℕ → Seen
single_of c rest = cond (is_some (mark_kind (c ∷ []))) (Found (Mark (c ∷ [])) rest) (Stuck (Stray c) rest)

abbrev mark_of : ℕ → List ℕ → Seen
mark_of c [] = single_of c []
mark_of c (d ∷ cs) =
    cond (c == 47 && d == 47) (Found (Comment (run is_in_line cs).0) (run is_in_line cs).1)
    (cond (is_some (mark_kind (c ∷ d ∷ []))) (Found (Mark (c ∷ d ∷ [])) cs) (single_of c (d ∷ cs)))

pub first_of : List ℕ → Seen
first_of [] = Ended
first_of (c ∷ cs) =
    cond (is_blank c) (Found (Blank c) cs)
    (cond (starts_name c) (Found (Word (c ∷ (run continues_name cs).0)) (run continues_name cs).1)
    (cond (is_ascii_digit c) (number_of (run is_ascii_digit (c ∷ cs)))
    (cond (c == 34) (text_of cs)
    (mark_of c cs))))

pub first_of-nil : first_of [] ≡ Ended
unfolding first_of
first_of-nil = refl

run-is : (test : ℕ → Bool) (cs rest : List ℕ) → Pass test cs → Stops test rest → run test (cs ++ rest) ≡ (cs, rest)
run-is test [] [] pass stops = refl
run-is test [] (c ∷ rest) pass stops = cond-false (test c) _ _ stops
run-is test (c ∷ cs) rest pass stops =
    cond-true (test c) _ _ pass.0 ∙ ap (λ (r : List ℕ × List ℕ). (c ∷ r.0, r.1)) (run-is test cs rest pass.1 stops)

no_comment : (c d : ℕ) → c ∷ d ∷ [] ≢ 47 ∷ 47 ∷ [] → (c == 47 && d == 47) ≡ false
no_comment c d apart = ⊎_elim
    (λ both. let parts = and_parts _ _ both in absurd (apart (λ i. eqb-true c 47 parts.0 i ∷ eqb-true d 47 parts.1 i ∷ [])))
    (λ no. no)
    (cases_Bool (c == 47 && d == 47))

-- the ways through the tests of a first character
at_blank : (c : ℕ) (cs : List ℕ) → is_blank c ≡ true → first_of (c ∷ cs) ≡ Found (Blank c) cs
unfolding first_of
at_blank c cs blank = cond-true (is_blank c) _ _ blank

at_name : (c : ℕ) (cs : List ℕ) → starts_name c ≡ true → first_of (c ∷ cs) ≡ Found (Word (c ∷ (run continues_name cs).0)) (run continues_name cs).1
unfolding first_of
at_name c cs name = cond-false (is_blank c) _ _ (name_no_blank c name) ∙ cond-true (starts_name c) _ _ name

at_digit : (c : ℕ) (cs : List ℕ) → is_ascii_digit c ≡ true → first_of (c ∷ cs) ≡ number_of (run is_ascii_digit (c ∷ cs))
unfolding first_of
at_digit c cs digit = cond-false (is_blank c) _ _ (digit_no_blank c digit) ∙ cond-false (starts_name c) _ _ (digit_no_name c digit) ∙ cond-true (is_ascii_digit c) _ _ digit

at_quote : (cs : List ℕ) → first_of (34 ∷ cs) ≡ text_of cs
unfolding first_of
at_quote cs = cond-false (starts_name 34) _ _ quote_no_name

at_other : (c : ℕ) (cs : List ℕ) → IsOther c → first_of (c ∷ cs) ≡ mark_of c cs
unfolding first_of
at_other c cs other =
    cond-false (is_blank c) _ _ other.no_blank ∙ cond-false (starts_name c) _ _ other.no_name
    ∙ cond-false (is_ascii_digit c) _ _ other.no_digit ∙ cond-false (c == 34) _ _ (ne_eqb c 34 other.no_quote)

other_by_test : (c : ℕ) → is_other c ≡ true → IsOther c
other_by_test c other =
    let outer = or_parts (is_blank c || starts_name c || is_ascii_digit c) (c == 34) (not-true _ other) in
    let middle = or_parts (is_blank c || starts_name c) (is_ascii_digit c) outer.0 in
    let inner = or_parts (is_blank c) (starts_name c) middle.0 in
    record { no_blank = inner.0; no_name = inner.1; no_digit = middle.1; no_quote = eqb-false c 34 outer.1 }

-- a text between quotes
text-char : (c : ℕ) (rest : List ℕ) → IsTrue (is_in_line c) → text_of (escaped_char c ++ rest) ≡ with_char c (text_of rest)
unfolding text_of
text-char c rest in_line = ⊎_elim (λ e. behind rest e) (λ n. plain rest n) (cases_Bool (is_escaped c))
  where
    behind : (rest : List ℕ) → is_escaped c ≡ true → text_of (escaped_char c ++ rest) ≡ with_char c (text_of rest)
    behind rest e = ap (λ cs. text_of (cs ++ rest)) (cond-true (is_escaped c) _ _ e) ∙ cond-true (is_escaped c) _ _ e

    plain : (rest : List ℕ) → is_escaped c ≡ false → text_of (escaped_char c ++ rest) ≡ with_char c (text_of rest)
    plain [] n =
        let parts = or_parts (c == 34) (c == 92) n in
        ap (λ cs. text_of (cs ++ [])) (cond-false (is_escaped c) _ _ n) ∙ cond-false (c == 34) _ _ parts.0
        ∙ cond-false (c == 10 || c == 92) _ _ ((λ i. not-true (c == 10) in_line i || parts.1 i))
    plain (d ∷ rest) n =
        let parts = or_parts (c == 34) (c == 92) n in
        ap (λ cs. text_of (cs ++ d ∷ rest)) (cond-false (is_escaped c) _ _ n) ∙ cond-false (c == 34) _ _ parts.0
        ∙ cond-false (c == 10) _ _ (not-true (c == 10) in_line) ∙ cond-false (c == 92) _ _ parts.1

text-closed : (cs after : List ℕ) → Pass is_in_line cs → text_of (escaped cs ++ 34 ∷ after) ≡ Found (Quoted cs) after
unfolding text_of
text-closed [] [] pass = refl
text-closed [] (d ∷ after) pass = refl
text-closed (c ∷ cs) after pass =
    ap text_of (append_assoc (escaped_char c) (escaped cs) (34 ∷ after)) ∙ text-char c (escaped cs ++ 34 ∷ after) pass.0 ∙ ap (with_char c) (text-closed cs after pass.1)

text_stays_open : (after : List ℕ) → EndsOpen after → text_of after ≡ Stuck (Open []) after
unfolding text_of
text_stays_open after ends = ⊎_elim
    (λ e. subst (λ a. text_of a ≡ Stuck (Open []) a) (sym e) refl)
    (λ h. ⊎_elim
    (λ e. subst (λ a. text_of a ≡ Stuck (Open []) a) (sym e) refl)
    (λ (w : (cs : List ℕ) × (after ≡ 10 ∷ cs)). subst (λ a. text_of a ≡ Stuck (Open []) a) (sym w.1) (line w.0))
    h)
    ends
  where
    line : (cs : List ℕ) → text_of (10 ∷ cs) ≡ Stuck (Open []) (10 ∷ cs)
    line [] = refl
    line (d ∷ cs) = refl

text-open : (cs after : List ℕ) → Pass is_in_line cs → EndsOpen after → text_of (escaped cs ++ after) ≡ Stuck (Open cs) after
text-open [] after pass ends = text_stays_open after ends
text-open (c ∷ cs) after pass ends =
    ap text_of (append_assoc (escaped_char c) (escaped cs) after) ∙ text-char c (escaped cs ++ after) pass.0 ∙ ap (with_char c) (text-open cs after pass.1 ends)

text-bad : (cs : List ℕ) (d : ℕ) (after : List ℕ) → Pass is_in_line cs → IsFalse (is_escaped d) → text_of (escaped cs ++ 92 ∷ d ∷ after) ≡ Stuck (BadEscape cs d) after
unfolding text_of
text-bad [] d after pass bad = cond-false (is_escaped d) _ _ bad
text-bad (c ∷ cs) d after pass bad =
    ap text_of (append_assoc (escaped_char c) (escaped cs) (92 ∷ d ∷ after)) ∙ text-char c (escaped cs ++ 92 ∷ d ∷ after) pass.0 ∙ ap (with_char c) (text-bad cs d after pass.1 bad)

number-small : (digits rest : List ℕ) → decimal digits ≤ 2 ^ 63 → number_of (digits, rest) ≡ Found (Numeral digits) rest
number-small digits rest small = cond-true (leb (decimal digits) (2 ^ 63)) _ _ (le-leb (decimal digits) (2 ^ 63) small)

number-great : (digits rest : List ℕ) → 2 ^ 63 < decimal digits → number_of (digits, rest) ≡ Stuck (Great digits) rest
number-great digits rest great = cond-false (leb (decimal digits) (2 ^ 63)) _ _ (lt-leb (decimal digits) (2 ^ 63) great)

at_number : (digits rest : List ℕ) → digits ≢ [] → Pass is_ascii_digit digits → Stops is_ascii_digit rest → first_of (digits ++ rest) ≡ number_of (digits, rest)
at_number [] rest some pass stops = absurd (some refl)
at_number (d ∷ digits) rest some pass stops =
    at_digit d (digits ++ rest) pass.0 ∙ ap number_of (run-is is_ascii_digit (d ∷ digits) rest pass stops)

single-mark : (c : ℕ) (rest : List ℕ) → IsSome (mark_kind (c ∷ [])) → IsLongest (c ∷ []) rest → mark_of c rest ≡ Found (Mark (c ∷ [])) rest
single-mark c [] some longest = cond-true _ _ _ some
single-mark c (d ∷ rest) some longest =
    cond-false (c == 47 && d == 47) _ _ (no_comment c d longest.1) ∙ cond-false (is_some (mark_kind (c ∷ d ∷ []))) _ _ longest.0 ∙ cond-true _ _ _ some

single-stray : (c : ℕ) (rest : List ℕ) → IsNone (mark_kind (c ∷ [])) → IsLongest (c ∷ []) rest → mark_of c rest ≡ Stuck (Stray c) rest
single-stray c [] none longest = cond-false _ _ _ none
single-stray c (d ∷ rest) none longest =
    cond-false (c == 47 && d == 47) _ _ (no_comment c d longest.1) ∙ cond-false (is_some (mark_kind (c ∷ d ∷ []))) _ _ longest.0 ∙ cond-false _ _ _ none

double-mark : (c d : ℕ) (rest : List ℕ) → IsSome (mark_kind (c ∷ d ∷ [])) → mark_of c (d ∷ rest) ≡ Found (Mark (c ∷ d ∷ [])) rest
double-mark c d rest some = cond-false (c == 47 && d == 47) _ _ (no_comment c d slashes) ∙ cond-true _ _ _ some
  where
    slashes : c ∷ d ∷ [] ≢ 47 ∷ 47 ∷ []
    slashes e = false≢true (sym (ap (λ m. is_some (mark_kind m)) e) ∙ some)

-- what stands in front is seen
pub first_of-piece : (p : Piece) (after : List ℕ) → Stands p after → first_of (spelling p ++ after) ≡ Found p after
first_of-piece (Blank c) after stands = at_blank c after stands
first_of-piece (Comment cs) after stands =
    at_other 47 (47 ∷ cs ++ after) (other_by_test 47 (mark_other 47 [] refl)) ∙ ap (λ (r : List ℕ × List ℕ). Found (Comment r.0) r.1) (run-is is_in_line cs after stands.0 stands.1)
first_of-piece (Word []) after stands = absurd stands.0
first_of-piece (Word (c ∷ cs)) after stands =
    at_name c (cs ++ after) stands.0.0 ∙ ap (λ (r : List ℕ × List ℕ). Found (Word (c ∷ r.0)) r.1) (run-is continues_name cs after stands.0.1 stands.1)
first_of-piece (Numeral digits) after stands =
    at_number digits after stands.0.0 stands.0.1 stands.1 ∙ number-small digits after stands.2
first_of-piece (Quoted cs) after stands =
    at_quote ((escaped cs ++ 34 ∷ []) ++ after) ∙ ap text_of (append_assoc (escaped cs) (34 ∷ []) after) ∙ text-closed cs after stands
first_of-piece (Mark []) after stands = absurd (false≢true stands.0)
first_of-piece (Mark (c ∷ [])) after stands =
    at_other c after (other_by_test c (mark_other c [] stands.0)) ∙ single-mark c after stands.0 stands.1
first_of-piece (Mark (c ∷ d ∷ [])) after stands =
    at_other c (d ∷ after) (other_by_test c (mark_other c (d ∷ []) stands.0)) ∙ double-mark c d after stands.0
first_of-piece (Mark (c ∷ d ∷ e ∷ cs)) after stands = absurd (false≢true (sym (three_no_mark c d e cs) ∙ stands.0))

pub first_of-obstacle : (o : Obstacle) (after : List ℕ) → Blocks o after → first_of (obstacle_spelling o ++ after) ≡ Stuck o after
first_of-obstacle (Stray c) after blocks = at_other c after blocks.0 ∙ single-stray c after blocks.1 blocks.2
first_of-obstacle (Great digits) after blocks =
    at_number digits after blocks.0.0 blocks.0.1 blocks.1 ∙ number-great digits after blocks.2
first_of-obstacle (Open cs) after blocks = at_quote (escaped cs ++ after) ∙ text-open cs after blocks.0 blocks.1
first_of-obstacle (BadEscape cs d) after blocks =
    at_quote ((escaped cs ++ 92 ∷ d ∷ []) ++ after) ∙ ap text_of (append_assoc (escaped cs) (92 ∷ d ∷ []) after) ∙ text-bad cs d after blocks.0 blocks.1
