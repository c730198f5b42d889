use Rattle.std.proofs.Common.{◌++◌, ap, ◌∙◌, ◌≡◌, ◌+◌, arith}
use Rattle.book_text.specs.Written.{fault_lines}
use Rattle.book_text.proofs.Lines.{one_more}
use Rattle.book_text.proofs.shown.put_faults.Goals as goal

pub loop-t-preserved : goal.loop-t-preserved
loop-t-preserved c = one_more c.args.book.now c.loop-t.t c.args.text.now.items c.loop-t.text.items c.put_fault_of.new.text.items c.loop-t.invariant c.in_ok-put_fault_of.ensures

pub returns-in_ok-put_fault_of : goal.returns-in_ok-put_fault_of
returns-in_ok-put_fault_of c =
    let last : c.loop-t.t + 1 ≡ c.args.book.now.next.thread = let is = c.last_thread-t-end.ensures.last in omega arith in
    one_more c.args.book.now c.loop-t.t c.args.text.now.items c.loop-t.text.items c.put_fault_of.new.text.items c.loop-t.invariant c.in_ok-put_fault_of.ensures
    ∙ ap (λ n. c.args.text.now.items ++ fault_lines c.args.book.now n) last
