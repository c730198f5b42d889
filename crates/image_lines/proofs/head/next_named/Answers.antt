use Rattle.std.proofs.Common.{◌≡◌, ℕ, true, ◌&&◌, cond, List, ◌∷◌, Option, Err, sym, ap, ◌∙◌}
use Rattle.std.specs.Option.{option_copied}
use Rattle.std.proofs.lemmas.Bool.{and_from}
use Rattle.text_lines.specs.Numeral.{number_in}
use Rattle.image_text.specs.declared.fault.LineFault.TheVariants.{BadLine}
use Rattle.image_text.specs.Pieces.{pieces_left}
use Rattle.image_text.specs.Reading.{is_piece}
use Rattle.image_lines.specs.Head.{next_behind, next_named}
use Rattle.image_lines.proofs.Rows.{piece_there}
use Rattle.image_lines.proofs.head.next_named.Goals as goal

pub returns : goal.returns
returns c =
    let left = pieces_left (option_copied c.in-Some-next_piece.rest) in
    let q = c.in-Some.cut.now in
    let t = c.in-Some-next_piece.thread.now in
    let some : (is_piece q && is_piece t) ≡ true = and_from (is_piece q) (is_piece t) (piece_there q c.if-is_empty.ensures) (piece_there t c.if-is_empty-2.ensures) in
    c.next_behind.ensures
    ∙ ap (λ (o : Option ℕ). next_behind o c.one_next.result left) c.cut_in.ensures
    ∙ ap (λ (o : Option ℕ). next_behind (number_in 0 4294967295 q) o left) c.one_next.ensures
    ∙ sym (ap next_named (c.in-Some.ensures ∙ ap (λ (ps : List (List ℕ)). q ∷ ps) c.in-Some-next_piece.ensures)
    ∙ ap (λ b. cond b (next_behind (number_in 0 4294967295 q) (number_in 1 4000000001 t) left) (Err BadLine)) some)
