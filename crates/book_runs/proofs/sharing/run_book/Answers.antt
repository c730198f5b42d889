use Rattle.std.proofs.Common.{subst}
use Rattle.sink_lines.specs.Device.{device}
use Rattle.lone_worker.proofs.OneStart.{start_unlent}
use Rattle.worker_rounds.specs.Shared.{IsSharedOf}
use Rattle.book_runs.proofs.Played.{alone_gains, alone_over, alone_stopped, several_broken, several_gains, several_over, several_stopped}
use Rattle.book_runs.proofs.Results.{if_err, if_ok, on_ok}
use Rattle.book_runs.proofs.sharing.run_book.Goals as goal

pub play_on-requires : goal.play_on-requires
play_on-requires g c = start_unlent c.args.book c.requires.starts

-- ---- one worker

pub returns-then-workers-eq1-clause-over : goal.returns-then-workers-eq1-clause-over
returns-then-workers-eq1-clause-over g c =
    let e = c.play_on.ensures in
    if_ok c.play_on.result.end _ _ (alone_over c.args.book c.play_on.result.book c.requires.starts e.later e.unlent c.args.workers c.requires.workers.0) e.over

pub returns-then-workers-eq1-clause-written : goal.returns-then-workers-eq1-clause-written
returns-then-workers-eq1-clause-written g c =
    let e = c.play_on.ensures in
    on_ok c.play_on.result.end _ _
    (alone_gains c.args.book c.play_on.result.book c.requires.starts e.later e.unlent c.args.workers c.requires.workers.0
    (device g.K.Sink.told g.K.Sink.faults c.args.sink.now) (device g.K.Sink.told g.K.Sink.faults c.play_on.new.sink)) e.written

pub returns-then-workers-eq1-clause-stopped : goal.returns-then-workers-eq1-clause-stopped
returns-then-workers-eq1-clause-stopped g c =
    let e = c.play_on.ensures in
    if_err c.play_on.result.end _ _
    (λ stop. alone_stopped c.args.book c.play_on.result.book c.requires.starts e.later e.unlent c.args.workers c.requires.workers.0 stop
    (device g.K.Sink.told g.K.Sink.faults c.args.sink.now) (device g.K.Sink.told g.K.Sink.faults c.play_on.new.sink)) e.stopped

-- ---- several workers

pub returns-in-Some-clause-stopped : goal.returns-in-Some-clause-stopped
returns-in-Some-clause-stopped g c =
    let before = device g.K.Sink.told g.K.Sink.faults c.args.sink.now in
    let after = device g.K.Sink.told g.K.Sink.faults c.run_shared-book.new.sink in
    let shared = subst (λ s. IsSharedOf c.args.workers c.args.book.job c.run_shared-book.result.book s before after) c.in-Some.is c.run_shared-book.ensures in
    several_stopped c.args.workers c.args.book.job c.if-workers-eq1.false c.run_shared-book.result.book before after c.in-Some.stop shared

pub play_on-requires-in-None : goal.play_on-requires-in-None
play_on-requires-in-None g c = record { shown = c.run_shared-book.ensures.shown; free = c.run_shared-book.ensures.free }

pub returns-in-None-clause-over : goal.returns-in-None-clause-over
returns-in-None-clause-over g c =
    let before = device g.K.Sink.told g.K.Sink.faults c.args.sink.now in
    let between = device g.K.Sink.told g.K.Sink.faults c.run_shared-book.new.sink in
    let shared = subst (λ s. IsSharedOf c.args.workers c.args.book.job c.run_shared-book.result.book s before between) c.in-None.is c.run_shared-book.ensures in
    let e = c.play_on-in-None.ensures in
    if_ok c.play_on-in-None.result.end _ _
    (several_over c.args.workers c.args.book.job c.if-workers-eq1.false c.run_shared-book.result.book before between shared c.requires.workers.0 c.play_on-in-None.result.book e.later e.unlent) e.over

pub returns-in-None-clause-written : goal.returns-in-None-clause-written
returns-in-None-clause-written g c =
    let before = device g.K.Sink.told g.K.Sink.faults c.args.sink.now in
    let between = device g.K.Sink.told g.K.Sink.faults c.run_shared-book.new.sink in
    let shared = subst (λ s. IsSharedOf c.args.workers c.args.book.job c.run_shared-book.result.book s before between) c.in-None.is c.run_shared-book.ensures in
    let e = c.play_on-in-None.ensures in
    on_ok c.play_on-in-None.result.end _ _
    (several_gains c.args.workers c.args.book.job c.if-workers-eq1.false c.run_shared-book.result.book before between shared c.requires.workers.0 c.play_on-in-None.result.book e.later e.unlent
    (device g.K.Sink.told g.K.Sink.faults c.play_on-in-None.new.sink)) e.written

pub returns-in-None-clause-stopped : goal.returns-in-None-clause-stopped
returns-in-None-clause-stopped g c =
    let before = device g.K.Sink.told g.K.Sink.faults c.args.sink.now in
    let between = device g.K.Sink.told g.K.Sink.faults c.run_shared-book.new.sink in
    let shared = subst (λ s. IsSharedOf c.args.workers c.args.book.job c.run_shared-book.result.book s before between) c.in-None.is c.run_shared-book.ensures in
    let e = c.play_on-in-None.ensures in
    if_err c.play_on-in-None.result.end _ _
    (λ stop. several_broken c.args.workers c.args.book.job c.if-workers-eq1.false c.run_shared-book.result.book before between shared c.requires.workers.0 c.play_on-in-None.result.book e.later e.unlent stop
    (device g.K.Sink.told g.K.Sink.faults c.play_on-in-None.new.sink)) e.stopped
