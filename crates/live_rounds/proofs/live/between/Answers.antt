use Rattle.std.proofs.Common.{Some}
use Rattle.sink_lines.specs.Device.{device}
use Rattle.live_rounds.specs.Going.{halt_of}
use Rattle.live_rounds.specs.Numbers.{heard}
use Rattle.live_rounds.proofs.Leaving.{between_stretch, put_stretch}
use Rattle.live_rounds.proofs.Writing.{starved, stretch_none}
use Rattle.live_rounds.proofs.live.between.Goals as goal

pub returns-then-eq-clause-stretch : goal.returns-then-eq-clause-stretch
returns-then-eq-clause-stretch g c =
    let book = c.args.live.now.book in
    let i = heard g.N.NumberSource.came g.N.NumberSource.ended g.N.NumberSource.last c.args.source.now in
    let x = device g.K.Sink.told g.K.Sink.faults c.args.sink.now in
    starved book book i i x x (stretch_none book i x)

pub returns-in-Err-clause-stretch : goal.returns-in-Err-clause-stretch
returns-in-Err-clause-stretch g c =
    put_stretch (Some c.in-Err.halt) c.args.live.now.book c.put_due_live.new.live.book
    (heard g.N.NumberSource.came g.N.NumberSource.ended g.N.NumberSource.last c.args.source.now)
    (device g.K.Sink.told g.K.Sink.faults c.args.sink.now) (device g.K.Sink.told g.K.Sink.faults c.put_due_live.new.sink)
    c.in-Err.ensures.put

pub returns-clause-stretch : goal.returns-clause-stretch
returns-clause-stretch g c =
    between_stretch (halt_of c.fill.result) c.args.live.now.book c.put_due_live.new.live.book c.fill.new.live.book
    (heard g.N.NumberSource.came g.N.NumberSource.ended g.N.NumberSource.last c.args.source.now)
    (heard g.N.NumberSource.came g.N.NumberSource.ended g.N.NumberSource.last c.fill.new.source)
    (device g.K.Sink.told g.K.Sink.faults c.args.sink.now) (device g.K.Sink.told g.K.Sink.faults c.put_due_live.new.sink)
    c.in-Ok.ensures.put c.fill.ensures.unwritten c.fill.ensures.fed c.fill.ensures.committed
