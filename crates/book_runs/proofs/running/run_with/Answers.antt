use Rattle.std.proofs.Common.{IfOk, IfErr, sym, subst}
use Rattle.sink_lines.specs.Device.{device}
use Rattle.book_runs.specs.Playing.{HasRun, HasStopped}
use Rattle.book_runs.specs.Watching.{run_as}
use Rattle.book_runs.proofs.Watched.{named_by}
use Rattle.book_runs.proofs.running.run_with.Goals as goal

pub returns-in-Watch-clause-over : goal.returns-in-Watch-clause-over
returns-in-Watch-clause-over g c =
    subst (λ l. IfOk c.watch_book.result.end (λ s. HasRun (run_as l c.args.workers) s c.args.book.job c.watch_book.result.book)) (sym c.in-Watch.is) c.watch_book.ensures.over

pub returns-in-Watch-clause-stopped : goal.returns-in-Watch-clause-stopped
returns-in-Watch-clause-stopped g c =
    subst (λ l. IfErr c.watch_book.result.end (λ stop. HasStopped (run_as l c.args.workers) stop c.args.book.job c.watch_book.result.book (device g.K.Sink.told g.K.Sink.faults c.args.sink.now) (device g.K.Sink.told g.K.Sink.faults c.watch_book.new.sink)))
    (sym c.in-Watch.is) c.watch_book.ensures.stopped

pub returns-in-Nothing-clause-over : goal.returns-in-Nothing-clause-over
returns-in-Nothing-clause-over g c =
    subst (λ l. IfOk c.run_book.result.end (λ s. HasRun (run_as l c.args.workers) s c.args.book.job c.run_book.result.book)) (sym c.in-Nothing.is) c.run_book.ensures.over

pub returns-in-Nothing-clause-stopped : goal.returns-in-Nothing-clause-stopped
returns-in-Nothing-clause-stopped g c =
    subst (λ l. IfErr c.run_book.result.end (λ stop. HasStopped (run_as l c.args.workers) stop c.args.book.job c.run_book.result.book (device g.K.Sink.told g.K.Sink.faults c.args.sink.now) (device g.K.Sink.told g.K.Sink.faults c.run_book.new.sink)))
    (sym c.in-Nothing.is) c.run_book.ensures.stopped

pub returns-in-Nothing-clause-named : goal.returns-in-Nothing-clause-named
returns-in-Nothing-clause-named g c =
    named_by c.args.workers c.args.book.job c.run_book.result.book (device g.K.Sink.told g.K.Sink.faults c.args.sink.now) (device g.K.Sink.told g.K.Sink.faults c.run_book.new.sink) c.run_book.result.end c.run_book.ensures.over c.run_book.ensures.stopped

pub returns-in-Mill-clause-over : goal.returns-in-Mill-clause-over
returns-in-Mill-clause-over g c =
    subst (λ l. IfOk c.run_book-in-Mill.result.end (λ s. HasRun (run_as l c.args.workers) s c.args.book.job c.run_book-in-Mill.result.book)) (sym c.in-Mill.is) c.run_book-in-Mill.ensures.over

pub returns-in-Mill-clause-stopped : goal.returns-in-Mill-clause-stopped
returns-in-Mill-clause-stopped g c =
    subst (λ l. IfErr c.run_book-in-Mill.result.end (λ stop. HasStopped (run_as l c.args.workers) stop c.args.book.job c.run_book-in-Mill.result.book (device g.K.Sink.told g.K.Sink.faults c.args.sink.now) (device g.K.Sink.told g.K.Sink.faults c.run_book-in-Mill.new.sink)))
    (sym c.in-Mill.is) c.run_book-in-Mill.ensures.stopped

pub returns-in-Mill-clause-named : goal.returns-in-Mill-clause-named
returns-in-Mill-clause-named g c =
    named_by c.args.workers c.args.book.job c.run_book-in-Mill.result.book (device g.K.Sink.told g.K.Sink.faults c.args.sink.now) (device g.K.Sink.told g.K.Sink.faults c.run_book-in-Mill.new.sink) c.run_book-in-Mill.result.end c.run_book-in-Mill.ensures.over c.run_book-in-Mill.ensures.stopped
