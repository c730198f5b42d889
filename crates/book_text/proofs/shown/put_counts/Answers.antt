use Rattle.std.proofs.Common.{arith}
use Rattle.book_text.proofs.Few.{waiting_few}
use Rattle.book_text.proofs.shown.put_counts.Goals as goal

pub overflow_add-waiting : goal.overflow_add-waiting
overflow_add-waiting c =
    let few = waiting_few c.args.book.now c.counts-ended.result c.counts-ended.ensures.counts c.last_thread-last_thread.result.0 c.last_thread-last_thread.ensures.last (omega arith) in
    omega arith

pub overflow_add-waiting-2 : goal.overflow_add-waiting-2
overflow_add-waiting-2 c =
    let few = waiting_few c.args.book.now c.counts-ended.result c.counts-ended.ensures.counts c.last_thread-last_thread.result.0 c.last_thread-last_thread.ensures.last (omega arith) in
    omega arith
