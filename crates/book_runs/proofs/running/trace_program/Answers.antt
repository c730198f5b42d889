use Rattle.std.proofs.Common.{◌≡◌, ◌∙◌, Err, IfOk, ap, subst}
use Rattle.stab_files.specs.Told.{Appends, AppendsPrefix}
use Rattle.trace_text.specs.declared.fault.TraceWriteFault.TheVariants.{Sink}
use Rattle.trace_text.specs.Text.{trace}
use Rattle.sink_lines.specs.Device.{device}
use Rattle.book_runs.specs.Playing.{HasRun}
use Rattle.book_runs.proofs.Ending.{trace_cut, trace_written}
use Rattle.book_runs.proofs.running.trace_program.Goals as goal

pub returns-in-Ok-write_trace : goal.returns-in-Ok-write_trace
returns-in-Ok-write_trace g c =
    let told = g.K.Sink.told in
    let job = c.args.job in
    let workers = c.args.workers in
    let book = c.run_book-book.result.book in
    let over = subst (λ r. IfOk r (λ s. HasRun workers s c.in-Ok.book.job book)) c.in-Ok-end.is c.run_book-book.ensures.over in
    let has = subst (λ j. HasRun workers c.in-Ok-end.status j book) c.in-Ok.ensures.job over in
    let all = subst (λ h. Appends (told c.args.sink.now) (told c.write_trace.new.sink) (trace h)) c.history.ensures.history c.in-Ok-write_trace.ensures.ok in
    trace_written workers job book c.with_book.result.status c.with_book.result.book (device told g.K.Sink.faults c.args.sink.now) (device told g.K.Sink.faults c.write_trace.new.sink) c.in-Ok-end.status has c.with_book.ensures.book
    c.with_book.ensures.status (all, c.in-Ok-write_trace.ensures.quiet)

pub returns-in-Err-Sink : goal.returns-in-Err-Sink
returns-in-Err-Sink g c =
    let told = g.K.Sink.told in
    let job = c.args.job in
    let workers = c.args.workers in
    let book = c.run_book-book.result.book in
    let over = subst (λ r. IfOk r (λ s. HasRun workers s c.in-Ok.book.job book)) c.in-Ok-end.is c.run_book-book.ensures.over in
    let has = subst (λ j. HasRun workers c.in-Ok-end.status j book) c.in-Ok.ensures.job over in
    let sink : c.write_trace.result ≡ Err Sink = c.in-Err-Sink.is ∙ ap Err c.in-Err-Sink.field-0-is in
    let front = subst (λ h. AppendsPrefix (told c.args.sink.now) (told c.write_trace.new.sink) (trace h)) c.history.ensures.history (c.write_trace.ensures.prefix sink) in
    trace_cut workers job book c.with_book-in-Err-Sink.result.status c.with_book-in-Err-Sink.result.book (device told g.K.Sink.faults c.args.sink.now) (device told g.K.Sink.faults c.write_trace.new.sink) c.in-Ok-end.status has c.with_book-in-Err-Sink.ensures.book
    c.with_book-in-Err-Sink.ensures.status (front, c.write_trace.ensures.rose sink)
