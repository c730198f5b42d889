-- The pieces of a line are read as the line.
use Rattle.std.proofs.Common.{◌≡◌, ℕ, true, false, cond, Option, Some, Result, Ok, Err, refl, ap, ◌∙◌}
use Rattle.std.specs.Prelude.{decimal}
use Rattle.std.proofs.lemmas.Bool.{and_from}
use Rattle.stab_base.specs.Datum.{Datum, unit, truth, int, text, chan, reference, pair}
use Rattle.language.specs.Depth.{max_expr_depth}
use Rattle.language.specs.Expression.{Expr, value}
use Rattle.expression_text.specs.Spelling.{spell, spell_value}
use Rattle.image_text.specs.declared.fault.LineFault.{LineFault}
use Rattle.image_text.specs.declared.fault.LineFault.TheVariants.{BadLine}
use Rattle.image_text.specs.ExpressionIn.{expression_in}
use Rattle.image_text.specs.Range.{all_pieces}
use Rattle.image_text.specs.Reading.{count_in, is_piece, name_in}
use Rattle.image_text.proofs.ExpressionLaws.{expression_written}
use Rattle.image_text.proofs.WordsWritten.{count_piece, count_reads, name_piece, name_reads}
use Rattle.image_lines.specs.declared.line.Line.{Line}
use Rattle.image_lines.specs.declared.line.Line.TheVariants.{Chan, Ref, Out, Thread, End}
use Rattle.image_lines.specs.Line.{begins_value, channel_of, line_in, output_of, reference_of, thread_of, value_in, value_read}
use Rattle.image_lines.specs.LineText.{IsLine, IsRight}
use Rattle.image_lines.proofs.LinePieces.{line_pieces}

value_begins : (v : Datum) → begins_value (all_pieces (spell_value v)) ≡ true
value_begins unit = refl
value_begins (truth true) = refl
value_begins (truth false) = refl
value_begins (int n) = refl
value_begins (text t) = refl
value_begins (chan c) = refl
value_begins (reference r) = refl
value_begins (pair a b) = refl

expression_back : (e : Expr) → IsRight e → expression_in max_expr_depth (all_pieces (spell e)) ≡ Ok e
expression_back e h = expression_written max_expr_depth e (all_pieces (spell e)) (record { pieces_are = refl; range = h.range; well = h.well; flat = h.flat })

value_back : (v : Datum) → IsRight (value v) → value_in (all_pieces (spell_value v)) ≡ Ok v
value_back v h =
    ap (λ b. cond b (value_read (expression_in max_expr_depth (all_pieces (spell_value v)))) (Err BadLine)) (value_begins v)
    ∙ ap value_read (expression_back (value v) h)

pub line_back : (l : Line) → IsLine l → line_in (line_pieces l) ≡ Ok l
line_back (Chan c) h = ap (λ b. cond b (channel_of (name_in (decimal c.0))) (Err BadLine)) (name_piece c.0 h) ∙ ap channel_of (name_reads c.0 h)
line_back (Ref r v) h =
    ap (λ b. cond b (reference_of (value_in (all_pieces (spell_value v))) (name_in (decimal r.0))) (Err BadLine)) (name_piece r.0 h.0)
    ∙ ap (λ (x : Result Datum LineFault). reference_of x (name_in (decimal r.0))) (value_back v h.1)
    ∙ ap (reference_of (Ok v)) (name_reads r.0 h.0)
line_back (Out v) h = ap output_of (value_back v h)
line_back (Thread t g e) h =
    ap (λ b. cond b (thread_of (expression_in max_expr_depth (all_pieces (spell e))) (name_in (decimal t.0)) (count_in (decimal g))) (Err BadLine))
    (and_from (is_piece (decimal t.0)) (is_piece (decimal g)) (name_piece t.0 h.0) (count_piece g h.1))
    ∙ ap (λ (x : Result Expr LineFault). thread_of x (name_in (decimal t.0)) (count_in (decimal g))) (expression_back e h.2)
    ∙ ap (λ (o : Option ℕ). thread_of (Ok e) o (count_in (decimal g))) (name_reads t.0 h.0)
    ∙ ap (thread_of (Ok e) (Some t.0)) (count_reads g h.1)
line_back End h = refl
