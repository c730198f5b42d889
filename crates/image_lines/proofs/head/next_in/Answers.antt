use Rattle.std.proofs.Common.{◌≡◌, ℕ, true, not, cond, List, Err, sym, ap, ◌∙◌}
use Rattle.std.specs.Prelude.{codes}
use Rattle.std.specs.Option.{option_copied}
use Rattle.std.specs.Str.{bytes_eq}
use Rattle.image_text.specs.declared.fault.LineFault.TheVariants.{BadLine}
use Rattle.image_text.specs.Pieces.{pieces_left}
use Rattle.image_lines.specs.Head.{next_in, next_named}
use Rattle.image_lines.proofs.Rows.{not_failed}
use Rattle.image_lines.proofs.head.next_in.Goals as goal

pub returns : goal.returns
returns c =
    let left = pieces_left (option_copied c.in-Some.rest) in
    let named : bytes_eq c.in-Some.name.now (codes "next") ≡ true =
    not_failed (bytes_eq c.in-Some.name.now (codes "next")) (c.if-ne.ensures ∙ ap (λ (bs : List ℕ). not (bytes_eq c.in-Some.name.now bs)) c.as_slice.ensures) in
    c.next_named.ensures ∙ sym (ap next_in c.in-Some.ensures ∙ ap (λ b. cond b (next_named left) (Err BadLine)) named)
