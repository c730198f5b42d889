use Rattle.std.proofs.Common.{inl, refl, subst}
use Rattle.sink_lines.specs.Device.{device}
use Rattle.live_rounds.specs.Numbers.{heard}
use Rattle.live_rounds.specs.Serving.{IsServed}
use Rattle.book_runs.specs.Serving.{ServedEnds}
use Rattle.book_runs.proofs.Served.{halted_bad, halted_ends, over_bad, over_ends}
use Rattle.book_runs.proofs.serving.serve_program.Goals as goal

pub returns-in_default-clause-ends : goal.returns-in_default-clause-ends
returns-in_default-clause-ends g c = inl (c.without_book.ensures.status, c.without_book.ensures.book, refl, (refl, refl))

pub returns-in-None-clause-ends : goal.returns-in-None-clause-ends
returns-in-None-clause-ends g c =
    let came = g.N.NumberSource.came in
    let ended = g.N.NumberSource.ended in
    let last = g.N.NumberSource.last in
    let told = g.K.Sink.told in
    let faults = g.K.Sink.faults in
    let old = c.in-Ok.book in
    let book = c.serve_book-book.result.book in
    let before = heard came ended last c.args.source.now in
    let after = heard came ended last c.serve_book-book.new.source in
    let sink = device told faults c.args.sink.now in
    let between = device told faults c.serve_book-book.new.sink in
    let written = device told faults c.shown_out.new.sink in
    let served = subst (λ h. IsServed c.args.workers h old book before after sink between) c.in-None.is c.serve_book-book.ensures in
    subst (λ j. ServedEnds c.args.workers c.shown_out.result.status j c.shown_out.result.book before after sink written) c.in-Ok.ensures.job
    (over_ends c.args.workers c.requires.1 old book before after sink between served written c.shown_out.result.status c.shown_out.result.book c.shown_out.ensures.book c.shown_out.ensures.shown)

pub returns-in-None-clause-bad : goal.returns-in-None-clause-bad
returns-in-None-clause-bad g c =
    let told = g.K.Sink.told in
    let faults = g.K.Sink.faults in
    over_bad (g.N.NumberSource.last c.serve_book-book.new.source) c.serve_book-book.result.book c.serve_book-book.ensures.shown c.shown_out.result.status c.shown_out.result.bad (device told faults c.serve_book-book.new.sink) (device told faults c.shown_out.new.sink)
    c.shown_out.ensures.bad c.shown_out.ensures.shown

pub returns-in-Some-clause-ends : goal.returns-in-Some-clause-ends
returns-in-Some-clause-ends g c =
    let came = g.N.NumberSource.came in
    let ended = g.N.NumberSource.ended in
    let last = g.N.NumberSource.last in
    let told = g.K.Sink.told in
    let faults = g.K.Sink.faults in
    let old = c.in-Ok.book in
    let book = c.serve_book-book.result.book in
    let before = heard came ended last c.args.source.now in
    let after = heard came ended last c.serve_book-book.new.source in
    let sink = device told faults c.args.sink.now in
    let between = device told faults c.serve_book-book.new.sink in
    let served = subst (λ h. IsServed c.args.workers h old book before after sink between) c.in-Some.is c.serve_book-book.ensures in
    subst (λ j. ServedEnds c.args.workers c.halted.result.status j c.halted.result.book before after sink between) c.in-Ok.ensures.job
    (halted_ends c.args.workers c.requires.1 old book before after sink between c.in-Some.halt c.halted.result.status c.halted.result.book c.halted.ensures.status c.halted.ensures.book served)

pub returns-in-Some-clause-bad : goal.returns-in-Some-clause-bad
returns-in-Some-clause-bad g c =
    let came = g.N.NumberSource.came in
    let ended = g.N.NumberSource.ended in
    let last = g.N.NumberSource.last in
    let told = g.K.Sink.told in
    let faults = g.K.Sink.faults in
    let after = heard came ended last c.serve_book-book.new.source in
    let served =
    subst (λ h. IsServed c.args.workers h c.in-Ok.book c.serve_book-book.result.book (heard came ended last c.args.source.now) after (device told faults c.args.sink.now) (device told faults c.serve_book-book.new.sink)) c.in-Some.is c.serve_book-book.ensures in
    halted_bad c.in-Some.halt after c.halted.result.status c.halted.result.bad c.halted.ensures.status c.halted.ensures.bad served.caused
