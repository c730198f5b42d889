-- The pieces of an expression are read as it, and no others.
use Rattle.std.proofs.Common.{◌≡◌, ℕ, true, false, cond, List, [], ◌∷◌, length, Option, Some, None, Ok, Err, refl, sym, ap, subst, ◌∙◌, arith}
use Rattle.std.proofs.lemmas.List.{append-nil}
use Rattle.language.specs.Expression.{Expr, value, variable, failed, form, Parts, none, part}
use Rattle.expression_text.specs.declared.word.Word.{Word}
use Rattle.expression_text.specs.Reading.{read}
use Rattle.expression_text.specs.Shape.{AreFormed, IsFormed, expression, shape}
use Rattle.expression_text.specs.Spelling.{AreWell, IsWell, spell}
use Rattle.expression_text.proofs.Back.{reads_back}
use Rattle.expression_text.proofs.Shaped.{paid}
use Rattle.expression_text.proofs.Sound.{reads_sound}
use Rattle.image_text.specs.declared.fault.LineFault.TheVariants.{BadLine, BadNumber, BadState}
use Rattle.image_text.specs.ExpressionIn.{by_words, expression_in, from_words, whole_expression}
use Rattle.image_text.specs.Range.{AreInRange, all_pieces}
use Rattle.image_text.specs.Reading.{AreRead, Words, reading}
use Rattle.image_text.specs.Expressions.{IsSpelled}
use Rattle.image_text.proofs.WordsRead.{all_were}
use Rattle.image_text.proofs.WordsWritten.{all_written}

mutual
  well_formed : (e : Expr) → IsWell e → IsFormed e
  well_formed (value v) w = tt
  well_formed (variable x) w = tt
  well_formed (failed k) w = tt
  well_formed (form h ps) w = (w.0, wells_formed ps w.1)

  wells_formed : (ps : Parts) → AreWell ps → AreFormed ps
  wells_formed none w = tt
  wells_formed (part e ps) w = (well_formed e w.0, wells_formed ps w.1)

-- an expression's pieces are read as it
pub expression_written : (d : ℕ) (e : Expr) (ps : List (List ℕ)) → IsSpelled d e ps → expression_in d ps ≡ Ok e
expression_written d e ps h =
    let ws = spell e in
    let paid_for : shape (Some (expression ∷ [])) ws ≡ true = paid (expression ∷ []) ws (e, [], well_formed e h.well, sym (append-nil ws), refl) in
    let back = reads_back d ws [] e (record { words_are = sym (append-nil ws); well = h.well; flat = h.flat }) in
    ap (λ (qs : List (List ℕ)). from_words d (reading qs)) h.pieces_are
    ∙ ap (from_words d) (all_written ws h.range)
    ∙ ap (λ b. cond b (whole_expression (read d ws)) (Err BadLine)) paid_for
    ∙ ap whole_expression back

whole_was : (o : Option (Expr × List Word)) (e : Expr) → whole_expression o ≡ Ok e → o ≡ Some (e, [])
whole_was None e h = absurd (let no : Err BadState ≡ Ok e = h in cc)
whole_was (Some (x, [])) e h = let same : x ≡ e = cc in ap (λ (y : Expr). Some (y, [])) same
whole_was (Some (x, w ∷ ws)) e h = absurd (let no : Err BadLine ≡ Ok e = h in cc)

words_were : (d : ℕ) (e : Expr) (ps : List (List ℕ)) (r : Words) → reading ps ≡ Some r → by_words d r ≡ Ok e → IsSpelled d e ps
words_were d e ps r is given =
    elim r.counted as (λ a. cond a (cond (shape (Some (expression ∷ [])) r.words) (cond r.whole (whole_expression (read d r.words)) (Err BadNumber)) (Err BadLine)) (Err BadNumber) ≡ Ok e → IsSpelled d e ps) [
      | false ↦ λ h. absurd (let no : Err BadNumber ≡ Ok e = h in cc)
      | true ↦ elim (shape (Some (expression ∷ [])) r.words) as (λ b. cond b (cond r.whole (whole_expression (read d r.words)) (Err BadNumber)) (Err BadLine) ≡ Ok e → IsSpelled d e ps) [
        | false ↦ λ h. absurd (let no : Err BadLine ≡ Ok e = h in cc)
        | true ↦ elim r.whole as (λ w. r.whole ≡ w → cond w (whole_expression (read d r.words)) (Err BadNumber) ≡ Ok e → IsSpelled d e ps) [
          | false ↦ λ at h. absurd (let no : Err BadNumber ≡ Ok e = h in cc)
          | true ↦ λ at h.
              let was : AreRead ps r = all_were (length ps) ps r (omega arith) is at in
              let spelled = reads_sound d r.words [] e (whole_was (read d r.words) e h) in
              let same : r.words ≡ spell e = spelled.words_are ∙ append-nil (spell e) in
              record {
                pieces_are = was.pieces_are ∙ ap all_pieces same;
                range = subst AreInRange same was.range;
                well = spelled.well;
                flat = spelled.flat;
              }
        ] refl
      ]
    ] given

-- what is read as an expression are its pieces
pub expression_was : (d : ℕ) (e : Expr) (ps : List (List ℕ)) → expression_in d ps ≡ Ok e → IsSpelled d e ps
expression_was d e ps given =
    elim (reading ps) as (λ o. reading ps ≡ o → from_words d o ≡ Ok e → IsSpelled d e ps) [
      | None ↦ λ is h. absurd (let no : Err BadLine ≡ Ok e = h in cc)
      | (Some r) ↦ λ is h. words_were d e ps r is h
    ] refl given
