-- A token of the kind Text is a text between its quotes.
use Rattle.std.proofs.Common.{◌≡◌, ℕ, Bool, true, false, cond, None, Some, Option, List, [], ◌∷◌, drop, refl, sym, ap, ◌∙◌, encode_utf8_all, IsUtf8, ⊎_elim}
use Rattle.std.specs.Prelude.{not, unwrap_or}
use Rattle.std.specs.List.{list_all, slice_range}
use Rattle.std.specs.Str.{bytes_eq, chars}
use Rattle.std.proofs.lemmas.Bool.{false≢true, and_parts, cases_Bool}
use Rattle.std.proofs.lemmas.Str.{chars_from_encodes}
use Rattle.stab_lex.specs.declared.kind.Kind.{Kind}
use Rattle.stab_lex.specs.declared.kind.Kind.TheVariants.{Name, Text}
use Rattle.stab_lex.specs.declared.token.Token.{Token}
use Rattle.stab_lex.specs.Kinds.{kind_in, reserved_names, name_kind, marks}
use Rattle.stab_lex.specs.Pieces.{Piece, Blank, Comment, Word, Numeral, Quoted, Mark, spelling, kind_of, Stands, IsText}
use Rattle.stab_lex.specs.Readings.{IsSlice}

abbrev is_text : Kind → Bool
is_text Text = true
is_text other = false

-- no row of a table is of the kind Text
no_text : (rows : List (List ℕ × Kind)) (s : List ℕ) → list_all (λ (row : List ℕ × Kind). not (is_text row.1)) rows ≡ true → kind_in rows s ≡ Some Text → ⊥
no_text [] s all e = (cc)
no_text (row ∷ rows) s all e =
    let parts = and_parts _ _ all in
    ⊎_elim
    (λ same. let here : Some row.1 ≡ Some Text = sym (ap (λ t. cond t (Some row.1) (kind_in rows s)) same) ∙ e in
    let is : row.1 ≡ Text = cc in
    false≢true (sym (ap (λ k. not (is_text k)) is) ∙ parts.0))
    (λ differs. no_text rows s parts.1 (sym (ap (λ t. cond t (Some row.1) (kind_in rows s)) differs) ∙ e))
    (cases_Bool (bytes_eq row.0 s))

no_name : (found : Option Kind) → (found ≡ Some Text → ⊥) → unwrap_or found Name ≡ Text → ⊥
no_name None never e = (cc)
no_name (Some k) never e = never (ap Some e)

piece_is_text : (p : Piece) (after literal : List ℕ) → Stands p after → kind_of p ≡ Some Text → IsUtf8 literal → literal ≡ encode_utf8_all (spelling p) → IsText literal
piece_is_text (Blank c) after literal stands kind utf8 is = absurd (cc)
piece_is_text (Comment cs) after literal stands kind utf8 is = absurd (cc)
piece_is_text (Word cs) after literal stands kind utf8 is =
    let name : name_kind (encode_utf8_all cs) ≡ Text = cc in
    absurd (no_name (kind_in reserved_names (encode_utf8_all cs)) (no_text reserved_names (encode_utf8_all cs) refl) name)
piece_is_text (Numeral digits) after literal stands kind utf8 is = absurd (cc)
piece_is_text (Quoted cs) after literal stands kind utf8 is =
    (cs, record { utf8 = utf8; text = sym (chars_from_encodes (spelling (Quoted cs)) literal utf8 (sym is)); in_line = stands })
piece_is_text (Mark cs) after literal stands kind utf8 is = absurd (no_text marks cs refl kind)

pub texts_are_quoted : (bytes : List ℕ) (token : Token) → IsSlice bytes token → token.kind ≡ Text → IsText (slice_range bytes token.start token.end)
texts_are_quoted bytes token slice is =
    piece_is_text slice.piece (chars (drop token.end bytes)) (slice_range bytes token.start token.end) slice.stands (slice.kind_is ∙ ap Some is) slice.utf8 slice.bytes_are
