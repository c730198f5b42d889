-- Any bytes are read or have a fault.
use Rattle.std.proofs.Common.{◌≡◌, ℕ, zero, suc, ◌^◌, ◌<◌, ◌≤◌, Bool, false, List, [], ◌∷◌, ◌++◌, length, take, refl, sym, ap, ◌∙◌, arith, subst, append_assoc, append-nil, length-append, ⊎_elim, inl, inr, IsUtf8}
use Rattle.std.specs.Prelude.{IsTrue, IsFalse, is_some, not, ◌&&◌, ◌==◌, ◌≢◌, ◌⊎◌}
use Rattle.std.specs.Char.{is_ascii_digit}
use Rattle.std.specs.Str.{chars, is_utf8, IsValidUpTo}
use Rattle.std.proofs.lemmas.Bool.{false≢true, eqb-true, eqb-false, and_from, or_cases, or_from, eq-eqb, and_parts, cases_Bool, cases_lt, cond-true, cond-false}
use Rattle.std.proofs.lemmas.List.{take_all}
use Rattle.std.proofs.lemmas.Str.{IsUtf8-from_is_utf8, is_utf8-from_IsUtf8, IsUtf8-nil}
use Rattle.stab_lex.specs.declared.token.Token.{Token}
use Rattle.stab_lex.specs.declared.token.LexFault.{LexFault}
use Rattle.stab_lex.specs.declared.token.LexFault.TheVariants.{NotUtf8}
use Rattle.stab_lex.specs.Kinds.{mark_kind}
use Rattle.stab_lex.specs.Place.{byte_len}
use Rattle.stab_lex.specs.Pieces.{Piece, Blank, Comment, Word, Numeral, Quoted, Mark, spelling, Stands, Obstacle, Stray, Great, Open, BadEscape, obstacle_spelling, Blocks, Pass, Stops, is_blank, is_in_line, is_escaped, starts_name, continues_name, decimal, escaped, escaped_char, IsOther, IsLongest, EndsOpen}
use Rattle.stab_lex.specs.Readings.{spellings, AllStand, tokens_at, Reads, fault_at, IsBlocked, HasFault}
use Rattle.stab_lex.proofs.Marks.{double_longest}
use Rattle.stab_lex.proofs.Progress.{some_spelling}

-- the longest front that passes a test
record Span (test : ℕ → Bool) (cs : List ℕ) : Type 0 where
  front : List ℕ
  rest : List ℕ
  text : cs ≡ front ++ rest
  pass : Pass test front
  stops : Stops test rest

span : (test : ℕ → Bool) (cs : List ℕ) → Span test cs
span test [] = record { front = []; rest = []; text = refl; pass = tt; stops = tt }
span test (c ∷ cs) =
    let s = span test cs in
    ⊎_elim
    (λ passes. record { front = c ∷ s.front; rest = s.rest; text = ap (λ r. c ∷ r) s.text; pass = (passes, s.pass); stops = s.stops })
    (λ fails. record { front = []; rest = c ∷ cs; text = refl; pass = tt; stops = fails })
    (cases_Bool (test c))

-- what stands behind an opening quote
data TextView (cs : List ℕ) : Type 0 where
  closed : (ds rest : List ℕ) → cs ≡ escaped ds ++ 34 ∷ rest → Pass is_in_line ds → TextView cs
  unclosed : (ds rest : List ℕ) → cs ≡ escaped ds ++ rest → Pass is_in_line ds → EndsOpen rest → TextView cs
  broken : (ds : List ℕ) (d : ℕ) (rest : List ℕ) → cs ≡ escaped ds ++ 92 ∷ d ∷ rest → Pass is_in_line ds → IsFalse (is_escaped d) → TextView cs

-- with a character more in front
further : (c : ℕ) (cs whole : List ℕ) → whole ≡ escaped_char c ++ cs → IsTrue (is_in_line c) → TextView cs → TextView whole
further c cs whole front in_line (closed ds rest e pass) =
    closed (c ∷ ds) rest (front ∙ ap (λ r. escaped_char c ++ r) e ∙ sym (append_assoc (escaped_char c) (escaped ds) (34 ∷ rest))) (in_line, pass)
further c cs whole front in_line (unclosed ds rest e pass ends) =
    unclosed (c ∷ ds) rest (front ∙ ap (λ r. escaped_char c ++ r) e ∙ sym (append_assoc (escaped_char c) (escaped ds) rest)) (in_line, pass) ends
further c cs whole front in_line (broken ds d rest e pass bad) =
    broken (c ∷ ds) d rest (front ∙ ap (λ r. escaped_char c ++ r) e ∙ sym (append_assoc (escaped_char c) (escaped ds) (92 ∷ d ∷ rest))) (in_line, pass) bad

escaped_in_line : (d : ℕ) → IsTrue (is_escaped d) → IsTrue (is_in_line d)
escaped_in_line d is = ⊎_elim
    (λ h. subst (λ x. IsTrue (is_in_line x)) (sym (eqb-true d 34 h)) refl)
    (λ h. subst (λ x. IsTrue (is_in_line x)) (sym (eqb-true d 92 h)) refl)
    (or_cases (d == 34) (d == 92) is)

tail : List ℕ → List ℕ
tail [] = []
tail (c ∷ cs) = cs

behind_backslash : (cs : List ℕ) → TextView (tail cs) → TextView (92 ∷ cs)
unfolding tail
behind_backslash [] view = unclosed [] (92 ∷ []) refl tt (inr (inl refl))
behind_backslash (d ∷ ds) view = ⊎_elim
    (λ is. further d ds (92 ∷ d ∷ ds) (ap (λ xs. xs ++ ds) (sym (cond-true (is_escaped d) (92 ∷ d ∷ []) (d ∷ []) is))) (escaped_in_line d is) view)
    (λ is_not. broken [] d ds refl tt is_not)
    (cases_Bool (is_escaped d))

text_step : (c : ℕ) (cs : List ℕ) → TextView cs → TextView (tail cs) → TextView (c ∷ cs)
text_step c cs view later = ⊎_elim
    (λ quote. closed [] cs (ap (λ x. x ∷ cs) (eqb-true c 34 quote)) tt)
    (λ no_quote. ⊎_elim
    (λ line. unclosed [] (c ∷ cs) refl tt (inr (inr (cs, ap (λ x. x ∷ cs) (eqb-true c 10 line)))))
    (λ no_line. ⊎_elim
    (λ backslash. subst (λ x. TextView (x ∷ cs)) (sym (eqb-true c 92 backslash)) (behind_backslash cs later))
    (λ no_backslash.
    further c cs (c ∷ cs) (ap (λ xs. xs ++ cs) (sym (cond-false (is_escaped c) (92 ∷ c ∷ []) (c ∷ []) (or_from (c == 34) (c == 92) no_quote no_backslash)))) (ap not no_line) view)
    (cases_Bool (c == 92)))
    (cases_Bool (c == 10)))
    (cases_Bool (c == 34))

text_views : (cs : List ℕ) → TextView cs × TextView (tail cs)
unfolding tail
text_views [] = (unclosed [] [] refl tt (inl refl), unclosed [] [] refl tt (inl refl))
text_views (c ∷ cs) = let views = text_views cs in (text_step c cs views.0 views.1, views.0)

-- what a text begins with
data View (text : List ℕ) : Type 0 where
  ended : text ≡ [] → View text
  found : (p : Piece) (rest : List ℕ) → text ≡ spelling p ++ rest → Stands p rest → View text
  stuck : (o : Obstacle) (rest : List ℕ) → text ≡ obstacle_spelling o ++ rest → Blocks o rest → View text

quoted_view : (cs : List ℕ) → TextView cs → View (34 ∷ cs)
quoted_view cs (closed ds rest e pass) =
    found (Quoted ds) rest (ap (λ r. 34 ∷ r) (e ∙ sym (append_assoc (escaped ds) (34 ∷ []) rest))) pass
quoted_view cs (unclosed ds rest e pass ends) = stuck (Open ds) rest (ap (λ r. 34 ∷ r) e) (pass, ends)
quoted_view cs (broken ds d rest e pass bad) =
    stuck (BadEscape ds d) rest (ap (λ r. 34 ∷ r) (e ∙ sym (append_assoc (escaped ds) (92 ∷ d ∷ []) rest))) (pass, bad)

number_view : (c : ℕ) (cs : List ℕ) → IsTrue (is_ascii_digit c) → Span is_ascii_digit cs → View (c ∷ cs)
number_view c cs digit s =
    let some : c ∷ s.front ≢ [] = λ e. (cc) in
    ⊎_elim
    (λ great. stuck (Great (c ∷ s.front)) s.rest (ap (λ r. c ∷ r) s.text) ((some, (digit, s.pass)), s.stops, great))
    (λ small. found (Numeral (c ∷ s.front)) s.rest (ap (λ r. c ∷ r) s.text) ((some, (digit, s.pass)), s.stops, small))
    (cases_lt (2 ^ 63) (decimal (c ∷ s.front)))

single_view : (c : ℕ) (cs : List ℕ) → IsOther c → IsLongest (c ∷ []) cs → View (c ∷ cs)
single_view c cs other alone = ⊎_elim
    (λ some. found (Mark (c ∷ [])) cs refl (some, alone))
    (λ none. stuck (Stray c) cs refl (other, none, alone))
    (cases_Bool (is_some (mark_kind (c ∷ []))))

slashes : (c d : ℕ) → (c == 47 && d == 47) ≡ false → c ∷ d ∷ [] ≢ 47 ∷ 47 ∷ []
slashes c d apart e = false≢true (sym apart ∙ and_from (c == 47) (d == 47) (eq-eqb c 47 (cc)) (eq-eqb d 47 (cc)))

comment_view : (c d : ℕ) (cs : List ℕ) → c ≡ 47 → d ≡ 47 → Span is_in_line cs → View (c ∷ d ∷ cs)
comment_view c d cs first second s =
    found (Comment s.front) s.rest ((λ i. first i ∷ second i ∷ s.text i)) (s.pass, s.stops)

mark_view : (c : ℕ) (cs : List ℕ) → IsOther c → View (c ∷ cs)
mark_view c [] other = single_view c [] other tt
mark_view c (d ∷ cs) other = ⊎_elim
    (λ yes. let parts = and_parts _ _ yes in comment_view c d cs (eqb-true c 47 parts.0) (eqb-true d 47 parts.1) (span is_in_line cs))
    (λ apart. ⊎_elim
    (λ some. found (Mark (c ∷ d ∷ [])) cs refl (some, double_longest c d cs))
    (λ none. single_view c (d ∷ cs) other (none, slashes c d apart))
    (cases_Bool (is_some (mark_kind (c ∷ d ∷ [])))))
    (cases_Bool (c == 47 && d == 47))

word_view : (c : ℕ) (cs : List ℕ) → IsTrue (starts_name c) → Span continues_name cs → View (c ∷ cs)
word_view c cs starts s = found (Word (c ∷ s.front)) s.rest (ap (λ r. c ∷ r) s.text) ((starts, s.pass), s.stops)

view_of : (text : List ℕ) → View text
view_of [] = ended refl
view_of (c ∷ cs) = ⊎_elim
    (λ blank. found (Blank c) cs refl blank)
    (λ no_blank. ⊎_elim
    (λ starts. word_view c cs starts (span continues_name cs))
    (λ no_name. ⊎_elim
    (λ digit. number_view c cs digit (span is_ascii_digit cs))
    (λ no_digit. ⊎_elim
    (λ quote. subst (λ x. View (x ∷ cs)) (sym (eqb-true c 34 quote)) (quoted_view cs (text_views cs).0))
    (λ no_quote. mark_view c cs (record { no_blank = no_blank; no_name = no_name; no_digit = no_digit; no_quote = eqb-false c 34 no_quote }))
    (cases_Bool (c == 34)))
    (cases_Bool (is_ascii_digit c)))
    (cases_Bool (starts_name c)))
    (cases_Bool (is_blank c))

-- a text is pieces in a row, to its end or to an obstacle
data Cut (text : List ℕ) : Type 0 where
  whole : (ps : List Piece) → text ≡ spellings ps → AllStand ps [] → Cut text
  until : (ps : List Piece) (o : Obstacle) (after : List ℕ) → text ≡ spellings ps ++ (obstacle_spelling o ++ after) → AllStand ps (obstacle_spelling o ++ after) → Blocks o after → Cut text

cut_more : (p : Piece) (text rest : List ℕ) → text ≡ spelling p ++ rest → Stands p rest → Cut rest → Cut text
cut_more p text rest e stands (whole ps f all) =
    whole (p ∷ ps) (e ∙ ap (λ r. spelling p ++ r) f) (subst (Stands p) (f ∙ sym (append-nil (spellings ps))) stands, all)
cut_more p text rest e stands (until ps o after f all blocks) =
    until (p ∷ ps) o after
    (e ∙ ap (λ r. spelling p ++ r) f ∙ sym (append_assoc (spelling p) (spellings ps) (obstacle_spelling o ++ after)))
    (subst (Stands p) f stands, all)
    blocks

cut_step : (text : List ℕ) → ((rest : List ℕ) → length rest < length text → Cut rest) → View text → Cut text
cut_step text deeper (ended e) = whole [] e tt
cut_step text deeper (stuck o rest e blocks) = until [] o rest e tt blocks
cut_step text deeper (found p rest e stands) =
    let less : length rest < length text = omega (arith, some_spelling p rest stands, ap length e, length-append (spelling p) rest) in
    cut_more p text rest e stands (deeper rest less)

cut_of : (n : ℕ) (text : List ℕ) → length text ≤ n → Cut text
cut_of zero text short = cut_step text (λ rest less. absurd (omega arith)) (view_of text)
cut_of (suc n) text short = cut_step text (λ rest less. cut_of n rest (omega arith)) (view_of text)

blocked_fault : (bytes : List ℕ) (at : ℕ) (o : Obstacle) → IsBlocked bytes (fault_at at o) → HasFault bytes (fault_at at o)
blocked_fault bytes at (Stray c) b = b
blocked_fault bytes at (Great digits) b = b
blocked_fault bytes at (Open cs) b = b
blocked_fault bytes at (BadEscape cs d) b = b

-- the longest front of at most k bytes that is UTF-8
record Longest (bytes : List ℕ) (k : ℕ) : Type 0 where
  len : ℕ
  short : len ≤ k
  front : IsUtf8 (take len bytes)
  longest : (m : ℕ) → len < m → m ≤ k → IsUtf8 (take m bytes) → ⊥

longest_of : (bytes : List ℕ) (k : ℕ) → Longest bytes k
longest_of bytes zero = record { len = 0; short = omega arith; front = IsUtf8-nil; longest = λ m more less _. omega arith }
longest_of bytes (suc k) = ⊎_elim
    (λ valid. record { len = suc k; short = omega arith; front = IsUtf8-from_is_utf8 _ valid; longest = λ m more less _. omega arith })
    (λ invalid.
    let r = longest_of bytes k in
    record {
      len = r.len;
      short = let s = r.short in omega arith;
      front = r.front;
      longest = λ m more less utf8. ⊎_elim
          (λ below. r.longest m more (omega arith) utf8)
          (λ above. let same : m ≡ suc k = omega arith in false≢true (sym invalid ∙ is_utf8-from_IsUtf8 _ (subst (λ n. IsUtf8 (take n bytes)) same utf8)))
          (cases_lt m (suc k));
    })
    (cases_Bool (is_utf8 (take (suc k) bytes)))

broken_at : (bytes : List ℕ) → (IsUtf8 bytes → ⊥) → (n : ℕ) × IsValidUpTo bytes n
broken_at bytes invalid =
    let r = longest_of bytes (length bytes) in
    let all : (m : ℕ) → length bytes ≤ m → IsUtf8 (take m bytes) → ⊥ = λ m past utf8. invalid (subst IsUtf8 (take_all m bytes past) utf8) in (
      r.len,
      record {
        short = ⊎_elim (λ less. less) (λ past. absurd (all r.len past r.front)) (cases_lt r.len (length bytes));
        front = r.front;
        longest = λ m more utf8. ⊎_elim (λ less. r.longest m more (omega arith) utf8) (λ past. all m past utf8) (cases_lt m (length bytes));
      },
    )

cut_answers : (bytes : List ℕ) → IsUtf8 bytes → Cut (chars bytes) → ((tokens : List Token) × Reads bytes tokens) ⊎ ((fault : LexFault) × HasFault bytes fault)
cut_answers bytes utf8 (whole ps e all) =
    inl (tokens_at 0 ps, record { utf8 = utf8; pieces = ps; text = e; stand = all; tokens_are = refl })
cut_answers bytes utf8 (until ps o after e all blocks) =
    inr (fault_at (byte_len (spellings ps)) o, blocked_fault bytes (byte_len (spellings ps)) o (record { utf8 = utf8; pieces = ps; obstacle = o; after = after; text = e; stand = all; blocks = blocks; fault_is = refl }))

pub reading_or_fault : (bytes : List ℕ) → ((tokens : List Token) × Reads bytes tokens) ⊎ ((fault : LexFault) × HasFault bytes fault)
reading_or_fault bytes = ⊎_elim
    (λ valid. cut_answers bytes (IsUtf8-from_is_utf8 bytes valid) (cut_of (length (chars bytes)) (chars bytes) (omega arith)))
    (λ invalid.
    let place = broken_at bytes (λ utf8. false≢true (sym invalid ∙ is_utf8-from_IsUtf8 bytes utf8)) in
    inr (NotUtf8 place.0, place.1))
    (cases_Bool (is_utf8 bytes))
