use Rattle.std.proofs.Common.{subst, arith}
use Rattle.stab_words.specs.Command.{most_workers}
use Rattle.sink_lines.specs.Device.{device}
use Rattle.worker_rounds.specs.Shared.{IsSharedOf}
use Rattle.book_runs.proofs.Played.{later_named, several_broken, several_gains, several_over, several_stopped}
use Rattle.book_runs.proofs.Results.{if_err, if_ok, on_ok}
use Rattle.book_runs.proofs.Watched.{as_most, not_one}
use Rattle.book_runs.proofs.watching.watch_book.Goals as goal

pub returns-in-Some-clause-stopped : goal.returns-in-Some-clause-stopped
returns-in-Some-clause-stopped g c =
    let before = device g.K.Sink.told g.K.Sink.faults c.args.sink.now in
    let after = device g.K.Sink.told g.K.Sink.faults c.run_watched-book.new.sink in
    let shared = subst (λ s. IsSharedOf c.args.workers c.args.book.job c.run_watched-book.result.book s before after) c.in-Some.is c.run_watched-book.ensures in
    several_stopped most_workers c.args.book.job not_one c.run_watched-book.result.book before after c.in-Some.stop
    (as_most c.args.workers c.requires.workers.1 c.args.book.job c.run_watched-book.result.book _ before after shared)

pub returns-in-Some-clause-named : goal.returns-in-Some-clause-named
returns-in-Some-clause-named g c = c.run_watched-book.ensures.named

pub play_on-requires : goal.play_on-requires
play_on-requires g c = record { shown = c.run_watched-book.ensures.shown; free = c.run_watched-book.ensures.free }

pub returns-in-None-clause-over : goal.returns-in-None-clause-over
returns-in-None-clause-over g c =
    let before = device g.K.Sink.told g.K.Sink.faults c.args.sink.now in
    let between = device g.K.Sink.told g.K.Sink.faults c.run_watched-book.new.sink in
    let shared = subst (λ s. IsSharedOf c.args.workers c.args.book.job c.run_watched-book.result.book s before between) c.in-None.is c.run_watched-book.ensures in
    let most = as_most c.args.workers c.requires.workers.1 c.args.book.job c.run_watched-book.result.book _ before between shared in
    let e = c.play_on.ensures in
    if_ok c.play_on.result.end _ _
    (several_over most_workers c.args.book.job not_one c.run_watched-book.result.book before between most (omega arith) c.play_on.result.book e.later e.unlent) e.over

pub returns-in-None-clause-written : goal.returns-in-None-clause-written
returns-in-None-clause-written g c =
    let before = device g.K.Sink.told g.K.Sink.faults c.args.sink.now in
    let between = device g.K.Sink.told g.K.Sink.faults c.run_watched-book.new.sink in
    let shared = subst (λ s. IsSharedOf c.args.workers c.args.book.job c.run_watched-book.result.book s before between) c.in-None.is c.run_watched-book.ensures in
    let most = as_most c.args.workers c.requires.workers.1 c.args.book.job c.run_watched-book.result.book _ before between shared in
    let e = c.play_on.ensures in
    on_ok c.play_on.result.end _ _
    (several_gains most_workers c.args.book.job not_one c.run_watched-book.result.book before between most (omega arith) c.play_on.result.book e.later e.unlent
    (device g.K.Sink.told g.K.Sink.faults c.play_on.new.sink)) e.written

pub returns-in-None-clause-stopped : goal.returns-in-None-clause-stopped
returns-in-None-clause-stopped g c =
    let before = device g.K.Sink.told g.K.Sink.faults c.args.sink.now in
    let between = device g.K.Sink.told g.K.Sink.faults c.run_watched-book.new.sink in
    let shared = subst (λ s. IsSharedOf c.args.workers c.args.book.job c.run_watched-book.result.book s before between) c.in-None.is c.run_watched-book.ensures in
    let most = as_most c.args.workers c.requires.workers.1 c.args.book.job c.run_watched-book.result.book _ before between shared in
    let e = c.play_on.ensures in
    if_err c.play_on.result.end _ _
    (λ stop. several_broken most_workers c.args.book.job not_one c.run_watched-book.result.book before between most (omega arith) c.play_on.result.book e.later e.unlent stop
    (device g.K.Sink.told g.K.Sink.faults c.play_on.new.sink)) e.stopped

pub returns-in-None-clause-named : goal.returns-in-None-clause-named
returns-in-None-clause-named g c =
    later_named c.args.workers c.requires.workers.0 c.run_watched-book.result.book c.play_on.result.book c.play_on.ensures.later c.run_watched-book.ensures.named
