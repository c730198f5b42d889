use Rattle.std.proofs.Common.{◌≡◌, ◌-◌, ◌∷◌, suc, length, take, drop, sym, ap, ◌∙◌, add-one}
use Rattle.std.proofs.lemmas.List.{take_rest, drop-drop}
use Rattle.text_lines.specs.Lines.{split}
use Rattle.text_lines.proofs.Pieces.{cut_none, cut_some}
use Rattle.text_lines.proofs.line.cut.Goals as goal

pub returns-in_default-clause-pieces : goal.returns-in_default-clause-pieces
returns-in_default-clause-pieces c = cut_none c.args.mark c.args.bytes.now c.in_default.ensures

pub returns-clause-pieces : goal.returns-clause-pieces
returns-clause-pieces c =
    let bytes = c.args.bytes.now in
    let r = c.split_at.result.1.now in
    let end = c.in-Some.end in
    let behind : take (length r - 1) (drop 1 r) ≡ drop (suc end) bytes = take_rest r 1 ∙ ap (drop 1) c.split_at.ensures.back ∙ drop-drop 1 end bytes ∙ ap (λ n. drop n bytes) (add-one end) in
    (cut_some c.args.mark bytes end c.in-Some.ensures).1
    ∙ ap (λ p. p ∷ split c.args.mark (drop (suc end) bytes)) (sym c.split_at.ensures.front)
    ∙ ap (λ b. c.split_at.result.0.now ∷ split c.args.mark b) (sym behind)
