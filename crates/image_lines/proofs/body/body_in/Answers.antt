use Rattle.std.proofs.Common.{ℕ, ◌+◌, List, length, Some, Ok, Err, sym, ap, ◌∙◌, arith}
use Rattle.std.proofs.lemmas.List.{append-nil}
use Rattle.text_lines.specs.Lines.{split}
use Rattle.image_lines.specs.declared.body.TextFault.TheVariants.{At}
use Rattle.image_lines.specs.declared.line.Line.{Line}
use Rattle.image_lines.specs.Body.{before, behind_end, read_lines}
use Rattle.image_lines.proofs.BodySteps.{at_end, last_lines, next_line, one_more, same_fault}
use Rattle.image_lines.proofs.body.body_in.Goals as goal

pub returns-in-Err : goal.returns-in-Err
returns-in-Err c =
    let so_far = c.loop-text.lines.items in
    sym (
    next_line (read_lines c.args.start (split 10 c.args.bytes.now)) so_far c.loop-text.at c.loop-text.rest.now c.in-Some.text.now c.in-Some.others.now (Err c.in-Err.fault)
    c.loop-text.invariant.same c.in-Some.ensures.pieces (sym c.in-Err.is ∙ c.in_ok-line.ensures)
    ∙ last_lines so_far (Some (At c.in-Err.fault c.loop-text.at)) (append-nil so_far))

pub returns-then-is_end : goal.returns-then-is_end
returns-then-is_end c =
    let so_far = c.loop-text.lines.items in
    let next = c.loop-text.at + length c.in-Some.text.now + 1 in
    let left = split 10 c.in-Some.others.now in
    sym (
    next_line (read_lines c.args.start (split 10 c.args.bytes.now)) so_far c.loop-text.at c.loop-text.rest.now c.in-Some.text.now c.in-Some.others.now (Ok c.in-Ok.line)
    c.loop-text.invariant.same c.in-Some.ensures.pieces (sym c.in-Ok.is ∙ c.in_ok-line.ensures)
    ∙ ap (before so_far) (at_end c.in-Ok.line c.loop-text.at next left (read_lines next left) (sym c.if-is_end.ensures))
    ∙ last_lines so_far (behind_end next left) (append-nil so_far)
    ∙ same_fault so_far (behind_end next left) c.behind_end-fault.result (sym c.behind_end-fault.ensures))

pub loop-text-preserved : goal.loop-text-preserved
loop-text-preserved c =
    let so_far = c.loop-text.lines.items in
    let next = c.loop-text.at + length c.in-Some.text.now + 1 in
    let left = split 10 c.in-Some.others.now in
    record {
      same =
          next_line (read_lines c.args.start (split 10 c.args.bytes.now)) so_far c.loop-text.at c.loop-text.rest.now c.in-Some.text.now c.in-Some.others.now (Ok c.in-Ok.line)
          c.loop-text.invariant.same c.in-Some.ensures.pieces (sym c.in-Ok.is ∙ c.in_ok-line.ensures)
          ∙ one_more so_far c.in-Ok.line c.loop-text.at next left (read_lines next left) (sym c.if-is_end.ensures)
          ∙ ap (λ (ls : List (ℕ × Line)). before ls (read_lines next left)) (sym c.in_ok-push.ensures.items);
      place = omega (arith, c.loop-text.invariant.place, c.in-Some.ensures.length);
    }
