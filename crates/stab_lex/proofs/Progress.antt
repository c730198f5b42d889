-- The pieces that were read so far, and one more.
use Rattle.std.proofs.Common.{◌≡◌, ℕ, ◌+◌, ◌<◌, None, Option, List, [], ◌∷◌, ◌++◌, length, refl, sym, ap, ◌∙◌, arith, subst, append_assoc, append-nil, add-zero, zero-add, IsUtf8}
use Rattle.std.specs.List.{slice_get}
use Rattle.std.specs.Str.{chars}
use Rattle.std.proofs.lemmas.Bool.{false≢true}
use Rattle.stab_lex.specs.declared.kind.Kind.{Kind}
use Rattle.stab_lex.specs.declared.token.Token.{Token}
use Rattle.stab_lex.specs.Place.{Place, Leads, byte_len}
use Rattle.stab_lex.specs.Pieces.{Piece, Blank, Comment, Word, Numeral, Quoted, Mark, spelling, Stands}
use Rattle.stab_lex.specs.Readings.{spellings, AllStand, token_of, token_at, tokens_at, Reads, Passes}
use Rattle.stab_lex.proofs.Lengths.{byte_len-append}
use Rattle.stab_lex.proofs.Ways.{Leads-append}

pub spellings-append : (ps qs : List Piece) → spellings (ps ++ qs) ≡ spellings ps ++ spellings qs
spellings-append [] qs = refl
spellings-append (p ∷ ps) qs = ap (λ r. spelling p ++ r) (spellings-append ps qs) ∙ sym (append_assoc (spelling p) (spellings ps) (spellings qs))

pub spellings-push : (ps : List Piece) (p : Piece) → spellings (ps ++ p ∷ []) ≡ spellings ps ++ spelling p
spellings-push ps p = spellings-append ps (p ∷ []) ∙ ap (λ r. spellings ps ++ r) (append-nil (spelling p))

AllStand-push : (ps : List Piece) (p : Piece) (after : List ℕ) → AllStand ps (spelling p ++ after) → Stands p after → AllStand (ps ++ p ∷ []) after
AllStand-push [] p after all one = (one, tt)
AllStand-push (q ∷ ps) p after all one =
    let regrouped : spellings ps ++ (spelling p ++ after) ≡ spellings (ps ++ p ∷ []) ++ after =
    sym (append_assoc (spellings ps) (spelling p) after) ∙ ap (λ r. r ++ after) (sym (spellings-push ps p)) in
    (subst (Stands q) regrouped all.0, AllStand-push ps p after all.1 one)

tokens_at-push : (at : ℕ) (ps : List Piece) (p : Piece) → tokens_at at (ps ++ p ∷ []) ≡ tokens_at at ps ++ token_at (at + byte_len (spellings ps)) p
tokens_at-push at [] p = append-nil (token_at at p) ∙ ap (λ n. token_at n p) (sym (add-zero at))
tokens_at-push at (q ∷ ps) p =
    let further : at + byte_len (spelling q) + byte_len (spellings ps) ≡ at + byte_len (spelling q ++ spellings ps) = omega (arith, byte_len-append (spelling q) (spellings ps)) in
    ap (λ r. token_at at q ++ r) (tokens_at-push (at + byte_len (spelling q)) ps p ∙ ap (λ n. tokens_at (at + byte_len (spelling q)) ps ++ token_at n p) further)
    ∙ sym (append_assoc (token_at at q) (tokens_at (at + byte_len (spelling q)) ps) (token_at (at + byte_len (spelling q ++ spellings ps)) p))

-- the start of a text
abbrev pub start_of : List ℕ → Place
start_of text = record { at = 0; rest = chars text }

-- the front of a text, up to a place, is pieces in a row, and the tokens are those among them
pub record ReadTo (text : List ℕ) (place : Place) (tokens : List Token) : Type 0 where
  pub pieces : List Piece
  pub way : Leads (spellings pieces) (start_of text) place
  pub stand : AllStand pieces place.rest
  pub tokens_are : tokens ≡ tokens_at 0 pieces

pub ReadTo-more : {text : List ℕ} {old new : Place} {tokens more : List Token} {kind : Option Kind} → ReadTo text old tokens → Passes kind old new → more ≡ tokens ++ token_of kind old.at new.at → ReadTo text new more
ReadTo-more {text} {old} {new} {tokens} {more} {kind} read passes grows =
    let ps = read.pieces in
    let p = passes.piece in
    let here : old.at ≡ byte_len (spellings ps) = omega (arith, read.way.at) in
    let same : token_of kind old.at new.at ≡ token_at (byte_len (spellings ps)) p =
    (λ i. token_of (passes.kind_is i) (here i) ((passes.way.at ∙ ap (λ n. n + byte_len (spelling p)) here) i)) in
    let all : more ≡ tokens_at 0 (ps ++ p ∷ []) =
    grows ∙ (λ i. read.tokens_are i ++ same i) ∙ ap (λ n. tokens_at 0 ps ++ token_at n p) (sym (zero-add (byte_len (spellings ps)))) ∙ sym (tokens_at-push 0 ps p) in
    record {
      pieces = ps ++ p ∷ [];
      way = subst (λ cs. Leads cs (start_of text) new) (sym (spellings-push ps p)) (Leads-append read.way passes.way);
      stand = AllStand-push ps p new.rest (subst (AllStand ps) passes.way.text read.stand) passes.stands;
      tokens_are = all;
    }

pub reads_all : {text : List ℕ} {place : Place} {tokens : List Token} → IsUtf8 text → ReadTo text place tokens → None ≡ slice_get place.rest 0 → Reads text tokens
reads_all {text} {place} {tokens} utf8 read ends =
    let empty = nothing_left place.rest ends in
    record {
      utf8 = utf8;
      pieces = read.pieces;
      text = read.way.text ∙ ap (λ r. spellings read.pieces ++ r) empty ∙ append-nil (spellings read.pieces);
      stand = subst (AllStand read.pieces) empty read.stand;
      tokens_are = read.tokens_are;
    }
  where
    nothing_left : (cs : List ℕ) → None ≡ slice_get cs 0 → cs ≡ []
    nothing_left [] e = refl
    nothing_left (c ∷ cs) e = absurd (cc)

-- no piece is empty
pub some_spelling : (p : Piece) (after : List ℕ) → Stands p after → 0 < length (spelling p)
some_spelling (Blank c) after stands = omega arith
some_spelling (Comment cs) after stands = omega arith
some_spelling (Word []) after stands = absurd stands.0
some_spelling (Word (c ∷ cs)) after stands = omega arith
some_spelling (Numeral []) after stands = absurd (stands.0.0 refl)
some_spelling (Numeral (d ∷ ds)) after stands = omega arith
some_spelling (Quoted cs) after stands = omega arith
some_spelling (Mark []) after stands = absurd (false≢true stands.0)
some_spelling (Mark (c ∷ cs)) after stands = omega arith
