-- Pieces that are read as a line are those of the line.
use Rattle.std.proofs.Common.{◌≡◌, ℕ, true, false, ◌&&◌, cond, List, [], ◌∷◌, Some, None, Ok, Err, refl, sym, ap, subst, ◌∙◌, arith}
use Rattle.std.specs.Prelude.{decimal}
use Rattle.text_lines.specs.Lines.{split}
use Rattle.text_lines.proofs.Numerals.{number_in-some}
use Rattle.stab_base.specs.Datum.{Datum}
use Rattle.language.specs.Depth.{max_expr_depth}
use Rattle.language.specs.Expression.{Expr, value, variable, failed, form}
use Rattle.trace_text.proofs.Lines.{named_in-some}
use Rattle.expression_text.specs.Spelling.{spell}
use Rattle.image_text.specs.declared.fault.LineFault.TheVariants.{BadLine, BadNumber}
use Rattle.image_text.specs.ExpressionIn.{expression_in}
use Rattle.image_text.specs.Range.{all_pieces}
use Rattle.image_text.specs.Reading.{count_in, is_piece, name_in}
use Rattle.image_text.proofs.ExpressionLaws.{expression_was}
use Rattle.image_lines.specs.declared.begin.Begin.{Begin}
use Rattle.image_lines.specs.declared.begin.Begin.TheVariants as begin
use Rattle.image_lines.specs.declared.line.Line.{Line}
use Rattle.image_lines.specs.declared.line.Line.TheVariants.{Chan, Ref, Out, Thread, End}
use Rattle.image_lines.specs.Line.{begin_named, begin_text, begins, begins_value, channel_of, line_begun, line_in, output_of, reference_of, thread_of, value_in, value_read}
use Rattle.image_lines.specs.LineText.{IsLine, IsRight, line_text}
use Rattle.image_lines.proofs.LinePieces.{line_pieces, text_pieces}
use Rattle.image_lines.proofs.Rows.{no_ok, ok_was, same_bytes}

-- an expression that was read
record IsExpression (e : Expr) (ps : List (List ℕ)) : Type 0 where
  pieces_are : ps ≡ all_pieces (spell e)
  right : IsRight e

expression_from : (e : Expr) (ps : List (List ℕ)) → expression_in max_expr_depth ps ≡ Ok e → IsExpression e ps
expression_from e ps h =
    let was = expression_was max_expr_depth e ps h in
    record { pieces_are = was.pieces_are; right = record { range = was.range; well = was.well; flat = was.flat } }

value_only_was : (e : Expr) (v : Datum) → value_read (Ok e) ≡ Ok v → e ≡ value v
value_only_was (value w) v h = let same : w ≡ v = cc in ap value same
value_only_was (variable x) v h = no_ok BadLine v h
value_only_was (failed k) v h = no_ok BadLine v h
value_only_was (form f ps) v h = no_ok BadLine v h

value_from : (v : Datum) (ps : List (List ℕ)) → value_in ps ≡ Ok v → IsExpression (value v) ps
value_from v ps given =
    (elim (begins_value ps) as (λ b. cond b (value_read (expression_in max_expr_depth ps)) (Err BadLine) ≡ Ok v → IsExpression (value v) ps) [
      | false ↦ λ h. no_ok BadLine v h
      | true ↦ λ h.
          elim (expression_in max_expr_depth ps) as (λ r. expression_in max_expr_depth ps ≡ r → value_read r ≡ Ok v → IsExpression (value v) ps) [
            | (Ok e) ↦ λ is k. subst (λ (x : Expr). IsExpression x ps) (value_only_was e v k) (expression_from e ps is)
            | (Err k) ↦ λ is no. no_ok k v no
          ] refl h
    ]) given

-- a line that was read
pub record IsRead (ps : List (List ℕ)) (l : Line) : Type 0 where
  pub pieces_are : ps ≡ line_pieces l
  pub right : IsLine l

channel_was : (n : List ℕ) (ps : List (List ℕ)) (l : Line) → n ≡ begin_text begin.Chan → line_begun (Some begin.Chan) ps ≡ Ok l → IsRead (n ∷ ps) l
channel_was n [] l named h = no_ok BadLine l h
channel_was n (a ∷ b ∷ ps) l named h = no_ok BadLine l h
channel_was n (a ∷ []) l named given =
    (elim (is_piece a) as (λ b. cond b (channel_of (name_in a)) (Err BadLine) ≡ Ok l → IsRead (n ∷ a ∷ []) l) [
      | false ↦ λ h. no_ok BadLine l h
      | true ↦ λ h.
          elim (name_in a) as (λ o. name_in a ≡ o → channel_of o ≡ Ok l → IsRead (n ∷ a ∷ []) l) [
            | None ↦ λ is k. no_ok BadNumber l k
            | (Some c) ↦ λ is k.
                let was = number_in-some 1 4000000000 a c (omega arith) is in
                subst (IsRead (n ∷ a ∷ [])) (ok_was (Chan (record { 0 = c })) l k) (record {
                  pieces_are = ap (λ (m : List ℕ). m ∷ a ∷ []) named ∙ ap (λ (d : List ℕ). begin_text begin.Chan ∷ d ∷ []) was.spelled;
                  right = (was.low, was.high);
                })
          ] refl h
    ]) given

reference_was : (n : List ℕ) (ps : List (List ℕ)) (l : Line) → n ≡ begin_text begin.Ref → line_begun (Some begin.Ref) ps ≡ Ok l → IsRead (n ∷ ps) l
reference_was n [] l named h = no_ok BadLine l h
reference_was n (a ∷ ps) l named given =
    (elim (is_piece a) as (λ b. cond b (reference_of (value_in ps) (name_in a)) (Err BadLine) ≡ Ok l → IsRead (n ∷ a ∷ ps) l) [
      | false ↦ λ h. no_ok BadLine l h
      | true ↦ λ h.
          elim (value_in ps) as (λ r. value_in ps ≡ r → reference_of r (name_in a) ≡ Ok l → IsRead (n ∷ a ∷ ps) l) [
            | (Err k) ↦ λ at no. no_ok _ l no
            | (Ok v) ↦ λ at some. elim (name_in a) as (λ o. name_in a ≡ o → reference_of (Ok v) o ≡ Ok l → IsRead (n ∷ a ∷ ps) l) [
              | None ↦ λ is k. no_ok BadNumber l k
              | (Some r) ↦ λ is k.
                  let was = number_in-some 1 4000000000 a r (omega arith) is in
                  let held = value_from v ps at in
                  subst (IsRead (n ∷ a ∷ ps)) (ok_was (Ref (record { 0 = r }) v) l k) (record {
                    pieces_are =
                        ap (λ (m : List ℕ). m ∷ a ∷ ps) named ∙ ap (λ (d : List ℕ). begin_text begin.Ref ∷ d ∷ ps) was.spelled
                        ∙ ap (λ (qs : List (List ℕ)). begin_text begin.Ref ∷ decimal r ∷ qs) held.pieces_are;
                    right = ((was.low, was.high), held.right);
                  })
            ] refl some
          ] refl h
    ]) given

output_was : (n : List ℕ) (ps : List (List ℕ)) (l : Line) → n ≡ begin_text begin.Out → line_begun (Some begin.Out) ps ≡ Ok l → IsRead (n ∷ ps) l
output_was n ps l named given =
    elim (value_in ps) as (λ r. value_in ps ≡ r → output_of r ≡ Ok l → IsRead (n ∷ ps) l) [
      | (Err k) ↦ λ at no. no_ok k l no
      | (Ok v) ↦ λ at k.
          let held = value_from v ps at in
          subst (IsRead (n ∷ ps)) (ok_was (Out v) l k) (record {
            pieces_are = ap (λ (m : List ℕ). m ∷ ps) named ∙ ap (λ (qs : List (List ℕ)). begin_text begin.Out ∷ qs) held.pieces_are;
            right = held.right;
          })
    ] refl given

thread_was : (n : List ℕ) (ps : List (List ℕ)) (l : Line) → n ≡ begin_text begin.Thread → line_begun (Some begin.Thread) ps ≡ Ok l → IsRead (n ∷ ps) l
thread_was n [] l named h = no_ok BadLine l h
thread_was n (a ∷ []) l named h = no_ok BadLine l h
thread_was n (a ∷ b ∷ ps) l named given =
    (elim (is_piece a && is_piece b) as (λ t. cond t (thread_of (expression_in max_expr_depth ps) (name_in a) (count_in b)) (Err BadLine) ≡ Ok l → IsRead (n ∷ a ∷ b ∷ ps) l) [
      | false ↦ λ h. no_ok BadLine l h
      | true ↦ λ h.
          elim (expression_in max_expr_depth ps) as (λ r. expression_in max_expr_depth ps ≡ r → thread_of r (name_in a) (count_in b) ≡ Ok l → IsRead (n ∷ a ∷ b ∷ ps) l) [
            | (Err k) ↦ λ at no. no_ok _ l no
            | (Ok e) ↦ λ at some. elim (name_in a) as (λ o. name_in a ≡ o → thread_of (Ok e) o (count_in b) ≡ Ok l → IsRead (n ∷ a ∷ b ∷ ps) l) [
              | None ↦ λ is k. no_ok BadNumber l k
              | (Some t) ↦ λ is more. elim (count_in b) as (λ o. count_in b ≡ o → thread_of (Ok e) (Some t) o ≡ Ok l → IsRead (n ∷ a ∷ b ∷ ps) l) [
                | None ↦ λ no k. no_ok BadNumber l k
                | (Some g) ↦ λ many k.
                    let was = number_in-some 1 4000000000 a t (omega arith) is in
                    let often = number_in-some 0 4294967295 b g (omega arith) many in
                    let stands = expression_from e ps at in
                    subst (IsRead (n ∷ a ∷ b ∷ ps)) (ok_was (Thread (record { 0 = t }) g e) l k) (record {
                      pieces_are =
                          ap (λ (m : List ℕ). m ∷ a ∷ b ∷ ps) named ∙ ap (λ (d : List ℕ). begin_text begin.Thread ∷ d ∷ b ∷ ps) was.spelled
                          ∙ ap (λ (d : List ℕ). begin_text begin.Thread ∷ decimal t ∷ d ∷ ps) often.spelled
                          ∙ ap (λ (qs : List (List ℕ)). begin_text begin.Thread ∷ decimal t ∷ decimal g ∷ qs) stands.pieces_are;
                      right = ((was.low, was.high), often.high, stands.right);
                    })
              ] refl more
            ] refl some
          ] refl h
    ]) given

end_was : (n : List ℕ) (ps : List (List ℕ)) (l : Line) → n ≡ begin_text begin.End → line_begun (Some begin.End) ps ≡ Ok l → IsRead (n ∷ ps) l
end_was n (a ∷ ps) l named h = no_ok BadLine l h
end_was n [] l named h = subst (IsRead (n ∷ [])) (ok_was End l h) (record { pieces_are = ap (λ (m : List ℕ). m ∷ []) named; right = tt })

begun_was : (b : Begin) (n : List ℕ) (ps : List (List ℕ)) (l : Line) → n ≡ begin_text b → line_begun (Some b) ps ≡ Ok l → IsRead (n ∷ ps) l
begun_was begin.Chan n ps l named h = channel_was n ps l named h
begun_was begin.Ref n ps l named h = reference_was n ps l named h
begun_was begin.Out n ps l named h = output_was n ps l named h
begun_was begin.Thread n ps l named h = thread_was n ps l named h
begun_was begin.End n ps l named h = end_was n ps l named h

pieces_were : (ps : List (List ℕ)) (l : Line) → line_in ps ≡ Ok l → IsRead ps l
pieces_were [] l h = no_ok BadLine l h
pieces_were (n ∷ ps) l given =
    elim (begin_named n) as (λ o. begin_named n ≡ o → line_begun o ps ≡ Ok l → IsRead (n ∷ ps) l) [
      | None ↦ λ is h. no_ok BadLine l h
      | (Some b) ↦ λ is h. begun_was b n ps l (named_in-some begin_text begins n b (refl, (refl, (refl, (refl, (refl, tt))))) is) h
    ] refl given

pub bytes_were : (bytes : List ℕ) (l : Line) → line_in (split 32 bytes) ≡ Ok l → (bytes ≡ line_text l) × IsLine l
bytes_were bytes l h =
    let was = pieces_were (split 32 bytes) l h in
    (same_bytes bytes (line_text l) (was.pieces_are ∙ sym (text_pieces l was.right)), was.right)
