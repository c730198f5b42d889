use Rattle.std.proofs.Common.{◌≡◌, ◌∷◌, sym, ap, ◌∙◌}
use Rattle.std.specs.Option.{option_copied}
use Rattle.trace_text.specs.Shape.{shape_of}
use Rattle.text_lines.specs.Lines.{split}
use Rattle.trace_text.specs.Words.{pieces_left}
use Rattle.trace_text.proofs.Shapes.{no_shape}
use Rattle.trace_text.proofs.shape.shape_of.Goals as goal

pub returns-in_default : goal.returns-in_default
returns-in_default c =
    let sign = c.in_ok-sign.sign.now in
    let seq = c.in_ok-seq.seq.now in
    let worker = c.in_ok-worker.worker.now in
    let verb = c.in_ok-verb.verb.now in
    let left = pieces_left 32 (option_copied c.in_ok-verb.rest) in
    let whole : split 32 c.args.line.now ≡ sign ∷ seq ∷ worker ∷ verb ∷ left = c.in_ok-sign.ensures ∙ ap (λ x. sign ∷ x) (c.in_ok-seq.ensures ∙ ap (λ x. seq ∷ x) (c.in_ok-worker.ensures ∙ ap (λ x. worker ∷ x) c.in_ok-verb.ensures)) in
    sym (ap (shape_of c.args.header) whole ∙ no_shape c.args.header sign seq worker verb left c.in_default.ensures.none)
