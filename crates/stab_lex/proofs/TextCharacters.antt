-- The characters of a text, one after the other.
use Rattle.std.proofs.Common.{◌≡◌, ℕ, false, eqb, None, Some, Option, List, [], ◌∷◌, ◌++◌, length, refl, sym, ap, ◌∙◌, arith, append_assoc, append-nil, encode_utf8, encode_utf8_all, MatchOption, ⊎_elim}
use Rattle.std.specs.Str.{chars}
use Rattle.std.specs.List.{slice_get}
use Rattle.std.proofs.lemmas.Str.{encodes-append}
use Rattle.std.proofs.lemmas.Bool.{cases_Bool, or_parts, eqb-false, cond-true, cond-false}
use Rattle.stab_lex.specs.Place.{Place, Leads}
use Rattle.stab_lex.specs.Pieces.{escaped, is_escaped, IsTextOf}
use Rattle.stab_lex.proofs.Ways.{bumped}

-- some of the characters have been read, into these bytes, and the others follow the place
pub record ReadsTo (cs : List ℕ) (place : Place) (bytes : List ℕ) : Type 0 where
  pub read : List ℕ
  pub left : List ℕ
  pub parts : cs ≡ read ++ left
  pub rest : place.rest ≡ escaped left ++ 34 ∷ []
  pub bytes_are : bytes ≡ encode_utf8_all read

unescaped : (c : ℕ) → is_escaped c ≡ false → (c ≡ 34 → ⊥) × (c ≡ 92 → ⊥)
unescaped c not_escaped =
    let parts = or_parts (eqb c 34) (eqb c 92) not_escaped in
    (eqb-false c 34 parts.0, eqb-false c 92 parts.1)

-- what the first character of a written text is
data Next (cs : List ℕ) (d : ℕ) (rest : List ℕ) : Type 0 where
  closes : cs ≡ [] → d ≡ 34 → Next cs d rest
  escapes : (c : ℕ) (left : List ℕ) → cs ≡ c ∷ left → d ≡ 92 → rest ≡ c ∷ (escaped left ++ 34 ∷ []) → Next cs d rest
  plain : (c : ℕ) (left : List ℕ) → cs ≡ c ∷ left → d ≡ c → is_escaped c ≡ false → rest ≡ escaped left ++ 34 ∷ [] → Next cs d rest

next_of : (cs : List ℕ) (d : ℕ) (rest : List ℕ) → escaped cs ++ 34 ∷ [] ≡ d ∷ rest → Next cs d rest
next_of [] d rest e = closes refl (cc)
next_of (c ∷ left) d rest e = ⊎_elim
    (λ yes. let written : 92 ∷ c ∷ (escaped left ++ 34 ∷ []) ≡ d ∷ rest = sym (ap (λ xs. (xs ++ escaped left) ++ 34 ∷ []) (cond-true (is_escaped c) (92 ∷ c ∷ []) (c ∷ []) yes)) ∙ e in
    escapes c left refl (cc) (cc))
    (λ bare. let written : c ∷ (escaped left ++ 34 ∷ []) ≡ d ∷ rest = sym (ap (λ xs. (xs ++ escaped left) ++ 34 ∷ []) (cond-false (is_escaped c) (92 ∷ c ∷ []) (c ∷ []) bare)) ∙ e in
    plain c left refl (cc) bare (cc))
    (cases_Bool (is_escaped c))

-- what the answer of the next character says of the characters still to come
abbrev pub Answers : Option ℕ → List ℕ → Place → Type 0
Answers r cs place = MatchOption r (cs ≡ []) (λ c. (left : List ℕ) × (cs ≡ c ∷ left) × (place.rest ≡ escaped left ++ 34 ∷ []))

at_quote : (cs : List ℕ) (d : ℕ) (rest : List ℕ) → d ≡ 34 → Next cs d rest → cs ≡ []
at_quote cs d rest quote (closes e f) = e
at_quote cs d rest quote (escapes c left e f g) = absurd (omega (arith, quote, f))
at_quote cs d rest quote (plain c left e f g h) = absurd (omega (arith, quote, f, unescaped c g))

at_backslash : (cs : List ℕ) (d : ℕ) (mid new : Place) (r : Option ℕ) → d ≡ 92 → MatchOption r ((mid.rest ≡ []) × (new ≡ mid)) (λ x. Leads (x ∷ []) mid new) → Next cs d mid.rest → Answers r cs new
at_backslash cs d mid new r backslash step (closes e f) = absurd (omega (arith, backslash, f))
at_backslash cs d mid new r backslash step (plain c left e f g h) = absurd (omega (arith, backslash, f, unescaped c g))
at_backslash cs d mid new None backslash step (escapes c left e f g) = absurd (omega (arith, ap length (sym g ∙ step.0)))
at_backslash cs d mid new (Some x) backslash step (escapes c left e f g) =
    let same : c ∷ (escaped left ++ 34 ∷ []) ≡ x ∷ new.rest = sym g ∙ step.text in
    let first : c ≡ x = cc in
    let more : new.rest ≡ escaped left ++ 34 ∷ [] = cc in
    (left, e ∙ ap (λ y. y ∷ left) first, more)

at_plain : (cs : List ℕ) (d : ℕ) (new : Place) → (d ≡ 34 → ⊥) → (d ≡ 92 → ⊥) → Next cs d new.rest → Answers (Some d) cs new
at_plain cs d new no_quote no_backslash (closes e f) = absurd (no_quote f)
at_plain cs d new no_quote no_backslash (escapes c left e f g) = absurd (no_backslash f)
at_plain cs d new no_quote no_backslash (plain c left e f g h) = (left, e ∙ ap (λ y. y ∷ left) (sym f), h)

module _ (cs : List ℕ) {d : ℕ} {old mid : Place} (step : Leads (d ∷ []) old mid) (written : old.rest ≡ escaped cs ++ 34 ∷ []) where
  next : Next cs d mid.rest
  next = next_of cs d mid.rest (sym written ∙ step.text)

  pub answers_quote : d ≡ 34 → Answers None cs mid
  answers_quote quote = at_quote cs d mid.rest quote next

  pub answers_backslash : (new : Place) (r : Option ℕ) → d ≡ 92 → MatchOption r ((mid.rest ≡ []) × (new ≡ mid)) (λ x. Leads (x ∷ []) mid new) → Answers r cs new
  answers_backslash new r backslash second = at_backslash cs d mid new r backslash second next

  pub answers_plain : (d ≡ 34 → ⊥) → (d ≡ 92 → ⊥) → Answers (Some d) cs mid
  answers_plain no_quote no_backslash = at_plain cs d mid no_quote no_backslash next

pub ReadsTo-begin : (cs literal bytes : List ℕ) (old new : Place) (r : Option ℕ) → IsTextOf literal cs → old.rest ≡ chars literal → bytes ≡ [] → MatchOption r ((old.rest ≡ []) × (new ≡ old)) (λ d. Leads (d ∷ []) old new) → ReadsTo cs new bytes
ReadsTo-begin cs literal bytes old new r text start empty bump =
    let written : 34 ∷ (escaped cs ++ 34 ∷ []) ≡ old.rest = sym text.text ∙ sym start in
    let step = bumped 34 r (ap (λ xs. slice_get xs 0) written) bump in
    let split : 34 ∷ (escaped cs ++ 34 ∷ []) ≡ 34 ∷ new.rest = written ∙ step.text in
    record { read = []; left = cs; parts = refl; rest = cc; bytes_are = empty }

pub ReadsTo-more : {cs bytes : List ℕ} {old : Place} (new : Place) (c : ℕ) (more : List ℕ) → ReadsTo cs old bytes → ((left : List ℕ) → old.rest ≡ escaped left ++ 34 ∷ [] → Answers (Some c) left new) → more ≡ bytes ++ encode_utf8 c → ReadsTo cs new more
ReadsTo-more {cs} {bytes} {old} new c more run answers grows =
    let answer = answers run.left run.rest in
    record {
      read = run.read ++ c ∷ [];
      left = answer.0;
      parts = run.parts ∙ ap (λ l. run.read ++ l) answer.1 ∙ sym (append_assoc run.read (c ∷ []) answer.0);
      rest = answer.2;
      bytes_are = grows ∙ ap (λ bs. bs ++ encode_utf8 c) run.bytes_are ∙ ap (λ bs. encode_utf8_all run.read ++ bs) (sym (append-nil (encode_utf8 c))) ∙ sym (encodes-append run.read (c ∷ []));
    }

pub ReadsTo-all : {cs bytes : List ℕ} {old : Place} (new : Place) → ReadsTo cs old bytes → ((left : List ℕ) → old.rest ≡ escaped left ++ 34 ∷ [] → Answers None left new) → bytes ≡ encode_utf8_all cs
ReadsTo-all {cs} {bytes} {old} new run answers =
    run.bytes_are ∙ ap encode_utf8_all (sym (run.parts ∙ ap (λ l. run.read ++ l) (answers run.left run.rest) ∙ append-nil run.read))
