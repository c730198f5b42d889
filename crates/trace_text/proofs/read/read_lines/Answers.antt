use Rattle.std.proofs.Common.{◌≡◌, suc, ◌+◌, ◌∷◌, [], length, sym, ap, subst, ◌∙◌, arith}
use Rattle.std.proofs.lemmas.Bool.{eqb-false}
use Rattle.trace_text.specs.Reading.{IsEntryAt, after, read_lines}
use Rattle.trace_text.specs.Text.{entries}
use Rattle.text_lines.specs.Lines.{split}
use Rattle.trace_text.proofs.Lines.{line-read}
use Rattle.trace_text.proofs.LineSteps.{after-after, line_is_next, something_behind}
use Rattle.trace_text.proofs.read.read_lines.Goals as goal

pub returns-in-BadLine : goal.returns-in-BadLine
returns-in-BadLine c =
    line_is_next c.args.header c.loop-line.at (length c.loop-line.history.events + 1) (c.len.result + 1) c.loop-line.rest.now c.in-Some.line.now c.in-Some.others.now _ (entries c.loop-line.history) _
    c.loop-line.invariant.same c.in-Some.ensures.pieces c.in-BadLine.ensures (ap (λ n. n + 1) c.len.ensures.len)

pub returns-in-BadNumber : goal.returns-in-BadNumber
returns-in-BadNumber c =
    line_is_next c.args.header c.loop-line.at (length c.loop-line.history.events + 1) (c.len.result + 1) c.loop-line.rest.now c.in-Some.line.now c.in-Some.others.now _ (entries c.loop-line.history) _
    c.loop-line.invariant.same c.in-Some.ensures.pieces c.in-BadNumber.ensures (ap (λ n. n + 1) c.len.ensures.len)

pub returns-in-OutOfOrder : goal.returns-in-OutOfOrder
returns-in-OutOfOrder c =
    line_is_next c.args.header c.loop-line.at (length c.loop-line.history.events + 1) (c.len.result + 1) c.loop-line.rest.now c.in-Some.line.now c.in-Some.others.now _ (entries c.loop-line.history) _
    c.loop-line.invariant.same c.in-Some.ensures.pieces c.in-OutOfOrder.ensures (ap (λ n. n + 1) c.len.ensures.len)

pub returns-in-End-2 : goal.returns-in-End-2
returns-in-End-2 c =
    line_is_next c.args.header c.loop-line.at (length c.loop-line.history.events + 1) (c.len.result + 1) c.loop-line.rest.now c.in-Some.line.now c.in-Some.others.now _ (entries c.loop-line.history) _
    c.loop-line.invariant.same c.in-Some.ensures.pieces c.in-End-2.ensures (ap (λ n. n + 1) c.len.ensures.len)
    ∙ ap (after (entries c.loop-line.history)) (something_behind (c.loop-line.at + length c.in-Some.line.now + 1) c.in-Some.others.now (λ none. eqb-false (length c.in-Some.others.now) 0 (sym c.if-is_empty.ensures) (ap length none)))

pub add-requires-clause-in_range : goal.add-requires-clause-in_range
add-requires-clause-in_range c =
    subst (λ n. IsEntryAt n c.in-Event.entry) (ap (λ n. n + 1) c.len.ensures.len)
    (line-read c.args.header (c.len.result + 1) (split 32 c.in-Some.line.now) c.in-Event.entry (sym c.in-Event.ensures)).entry

pub loop-line-preserved : goal.loop-line-preserved
loop-line-preserved c =
    let before = entries c.loop-line.history in
    let next = c.loop-line.at + length c.in-Some.line.now + 1 in
    let added = c.in_ok-add-in-Event.ensures in
    let number : suc (length c.loop-line.history.events + 1) ≡ length c.add.new.history.events + 1 = omega (arith, added.len) in
    let so_far = c.loop-line.invariant in
    record {
      same =
          line_is_next c.args.header c.loop-line.at (length c.loop-line.history.events + 1) (c.len.result + 1) c.loop-line.rest.now c.in-Some.line.now c.in-Some.others.now _ before _
          so_far.same c.in-Some.ensures.pieces c.in-Event.ensures (ap (λ n. n + 1) c.len.ensures.len)
          ∙ after-after before (c.in-Event.entry ∷ []) (read_lines c.args.header next (suc (length c.loop-line.history.events + 1)) (split 10 c.in-Some.others.now))
          ∙ ap (λ es. after es (read_lines c.args.header next (suc (length c.loop-line.history.events + 1)) (split 10 c.in-Some.others.now))) (sym added.added)
          ∙ ap (λ n. after (entries c.add.new.history) (read_lines c.args.header next n (split 10 c.in-Some.others.now))) number;
      place = omega (arith, so_far.place, c.in-Some.ensures.length);
      few = omega (arith, so_far.few, added.len);
      light = omega (arith, so_far.light, added.weight);
    }
