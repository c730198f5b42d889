use Rattle.std.proofs.Common.{◌≡◌, ℕ, ◌+◌, true, false, not, List, length, Ok, Err, sym, ap, ◌∙◌}
use Rattle.std.specs.Prelude.{codes}
use Rattle.std.specs.Str.{bytes_eq}
use Rattle.image_lines.specs.Opening.{header_line, length_line}
use Rattle.image_lines.proofs.CutLines.{cut_none}
use Rattle.image_lines.proofs.OpeningSteps.{header_fault, header_step, length_step}
use Rattle.image_lines.proofs.Rows.{not_failed, not_passed}
use Rattle.image_lines.proofs.opening.program_in.Goals as goal

pub returns-in_default : goal.returns-in_default
returns-in_default c = sym (ap header_line (cut_none c.args.bytes.now c.args.bytes.now c.in_default.ensures.pieces))

pub returns-then-ne : goal.returns-then-ne
returns-then-ne c =
    let other : bytes_eq c.in-Some.header.now (codes "stab image 1") ≡ false =
    not_passed (bytes_eq c.in-Some.header.now (codes "stab image 1")) (c.if-ne.ensures ∙ ap (λ (bs : List ℕ). not (bytes_eq c.in-Some.header.now bs)) c.as_slice.ensures) in
    sym (header_fault c.args.bytes.now c.in-Some.header.now c.in-Some.rest.now c.in-Some.ensures.pieces other)

pub returns-in_default-cut : goal.returns-in_default-cut
returns-in_default-cut c =
    let named : bytes_eq c.in-Some.header.now (codes "stab image 1") ≡ true =
    not_failed (bytes_eq c.in-Some.header.now (codes "stab image 1")) (c.if-ne.ensures ∙ ap (λ (bs : List ℕ). not (bytes_eq c.in-Some.header.now bs)) c.as_slice.ensures) in
    sym (
    header_step c.args.bytes.now c.in-Some.header.now c.in-Some.rest.now c.in-Some.ensures.pieces named
    ∙ ap (length_line (length c.in-Some.header.now + 1)) (cut_none c.in-Some.rest.now c.in-Some.rest.now c.in_default-cut.ensures.pieces))

pub returns-in-Ok : goal.returns-in-Ok
returns-in-Ok c =
    let named : bytes_eq c.in-Some.header.now (codes "stab image 1") ≡ true =
    not_failed (bytes_eq c.in-Some.header.now (codes "stab image 1")) (c.if-ne.ensures ∙ ap (λ (bs : List ℕ). not (bytes_eq c.in-Some.header.now bs)) c.as_slice.ensures) in
    c.sized.ensures
    ∙ sym (
    header_step c.args.bytes.now c.in-Some.header.now c.in-Some.rest.now c.in-Some.ensures.pieces named
    ∙ length_step (length c.in-Some.header.now + 1) c.in-Some.rest.now c.in-Some-cut.line.now c.in-Some-cut.rest.now (Ok c.in-Ok.count) c.in-Some-cut.ensures.pieces (sym c.in-Ok.is ∙ c.length_in.ensures))

pub returns-in-Err : goal.returns-in-Err
returns-in-Err c =
    let named : bytes_eq c.in-Some.header.now (codes "stab image 1") ≡ true =
    not_failed (bytes_eq c.in-Some.header.now (codes "stab image 1")) (c.if-ne.ensures ∙ ap (λ (bs : List ℕ). not (bytes_eq c.in-Some.header.now bs)) c.as_slice.ensures) in
    sym (
    header_step c.args.bytes.now c.in-Some.header.now c.in-Some.rest.now c.in-Some.ensures.pieces named
    ∙ length_step (length c.in-Some.header.now + 1) c.in-Some.rest.now c.in-Some-cut.line.now c.in-Some-cut.rest.now (Err c.in-Err.fault) c.in-Some-cut.ensures.pieces (sym c.in-Err.is ∙ c.length_in.ensures))
