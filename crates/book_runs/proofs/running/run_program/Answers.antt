use Rattle.std.proofs.Common.{IfOk, IfErr, OnOk, subst}
use Rattle.book_text.specs.Written.{released_lines}
use Rattle.sink_lines.specs.Device.{Gains, device}
use Rattle.turn_floor.specs.Served.{AreOf}
use Rattle.book_runs.specs.Playing.{HasRun, HasStopped}
use Rattle.book_runs.specs.Watching.{run_as}
use Rattle.book_runs.proofs.Watched.{events_of}
use Rattle.book_runs.proofs.Ending.{rest_written, stopped_by_memory, stopped_by_sink}
use Rattle.book_runs.proofs.running.run_program.Goals as goal

pub returns-in-Ok-end-clause-ends : goal.returns-in-Ok-end-clause-ends
returns-in-Ok-end-clause-ends g c =
    let told = g.K.Sink.told in
    let faults = g.K.Sink.faults in
    let workers = run_as c.args.last c.args.workers in
    let job = c.args.job in
    let book = c.run_with-book.result.book in
    let before = device told faults c.args.sink.now in
    let between = device told faults c.run_with-book.new.sink in
    let over = subst (λ r. IfOk r (λ s. HasRun workers s c.in-Ok.book.job book)) c.in-Ok-end.is c.run_with-book.ensures.over in
    let has = subst (λ j. HasRun workers c.in-Ok-end.status j book) c.in-Ok.ensures.job over in
    let gains = subst (λ r. OnOk r (Gains before between (released_lines book))) c.in-Ok-end.is c.run_with-book.ensures.written in
    rest_written c.args.last workers job book c.with_book.result.status c.with_book.result.book before (device told faults c.write_rest.new.sink)
    (λ text. text.items) c.rest_with-rest.result c.in-Ok-end.status c.write_rest.result has between gains
    c.with_book.ensures.status c.with_book.ensures.book c.rest_with-rest.ensures c.write_rest.ensures.written c.write_rest.ensures.silent

pub returns-in-SinkFault-clause-ends : goal.returns-in-SinkFault-clause-ends
returns-in-SinkFault-clause-ends g c =
    let told = g.K.Sink.told in
    let faults = g.K.Sink.faults in
    let workers = run_as c.args.last c.args.workers in
    let sink = device told faults c.args.sink.now in
    let after = device told faults c.run_with-book.new.sink in
    let job = c.args.job in
    let book = c.run_with-book.result.book in
    let stopped = subst (λ r. IfErr r (λ stop. HasStopped workers stop c.in-Ok.book.job book sink after)) c.in-Err.is c.run_with-book.ensures.stopped in
    let by_job = subst (λ j. HasStopped workers c.in-Err.stop j book sink after) c.in-Ok.ensures.job stopped in
    let has = subst (λ stop. HasStopped workers stop job book sink after) c.in-SinkFault.is by_job in
    stopped_by_sink c.args.last workers job book c.with_book-in-SinkFault.result.status c.with_book-in-SinkFault.result.book sink after has
    c.with_book-in-SinkFault.ensures.status c.with_book-in-SinkFault.ensures.book

pub returns-in-NoMemory-clause-ends : goal.returns-in-NoMemory-clause-ends
returns-in-NoMemory-clause-ends g c =
    let told = g.K.Sink.told in
    let faults = g.K.Sink.faults in
    let workers = run_as c.args.last c.args.workers in
    let sink = device told faults c.args.sink.now in
    let after = device told faults c.run_with-book.new.sink in
    let job = c.args.job in
    let book = c.run_with-book.result.book in
    let stopped = subst (λ r. IfErr r (λ stop. HasStopped workers stop c.in-Ok.book.job book sink after)) c.in-Err.is c.run_with-book.ensures.stopped in
    let by_job = subst (λ j. HasStopped workers c.in-Err.stop j book sink after) c.in-Ok.ensures.job stopped in
    let has = subst (λ stop. HasStopped workers stop job book sink after) c.in-NoMemory.is by_job in
    stopped_by_memory c.args.last workers job book c.with_book-in-NoMemory.result.status c.with_book-in-NoMemory.result.book sink after has
    c.with_book-in-NoMemory.ensures.status c.with_book-in-NoMemory.ensures.book

pub returns-in-Ok-end-clause-named : goal.returns-in-Ok-end-clause-named
returns-in-Ok-end-clause-named g c = events_of (AreOf c.args.workers) c.with_book.result.book c.run_with-book.result.book c.with_book.ensures.book c.run_with-book.ensures.named

pub returns-in-SinkFault-clause-named : goal.returns-in-SinkFault-clause-named
returns-in-SinkFault-clause-named g c = events_of (AreOf c.args.workers) c.with_book-in-SinkFault.result.book c.run_with-book.result.book c.with_book-in-SinkFault.ensures.book c.run_with-book.ensures.named

pub returns-in-NoMemory-clause-named : goal.returns-in-NoMemory-clause-named
returns-in-NoMemory-clause-named g c = events_of (AreOf c.args.workers) c.with_book-in-NoMemory.result.book c.run_with-book.result.book c.with_book-in-NoMemory.ensures.book c.run_with-book.ensures.named
