use denote.Param.Send.{sendable}
use Rattle.std.proofs.Crossing.{crosses}
use Rattle.sink_lines.specs.Device.{device}
use Rattle.live_rounds.specs.declared.next.Next.TheVariants.{Again}
use Rattle.live_rounds.specs.Numbers.{heard}
use Rattle.live_rounds.proofs.Crossing.{live-send}
use Rattle.live_rounds.proofs.Stepping.{first_of, first_stretch, left_going, left_of, left_says, left_stretch, live_of, live_stretch}
use Rattle.live_rounds.proofs.Writing.{starved, stretch_none}
use Rattle.live_rounds.proofs.live.play_live.Goals as goal

pub returns-in_default-clause-stretch : goal.returns-in_default-clause-stretch
returns-in_default-clause-stretch g c =
    let book = c.args.book in
    let i = heard g.N.NumberSource.came g.N.NumberSource.ended g.N.NumberSource.last c.args.source.now in
    let x = device g.K.Sink.told g.K.Sink.faults c.args.sink.now in
    starved book book i i x x (stretch_none book i x)

pub loop-init : goal.loop-init
loop-init g c =
    let i = heard g.N.NumberSource.came g.N.NumberSource.ended g.N.NumberSource.last c.args.source.now in
    let x = device g.K.Sink.told g.K.Sink.faults c.args.sink.now in
    record {
      can = tt;
      finite = tt;
      of = first_of c.args.workers c.args.book c.new-live.result c.new-live.ensures c.requires.of;
      stretch = first_stretch c.args.book c.new-live.result i x c.new-live.ensures;
    }

pub play_round-state-requires-send-D : goal.play_round-state-requires-send-D
play_round-state-requires-send-D g c κs within = search (live-send, sendable, crosses) depth 40

pub loop-preserved : goal.loop-preserved
loop-preserved g c =
    let workers = c.args.workers in
    let some = c.requires.workers.0 in
    let left = c.loop.live.book in
    let mid = c.play_round-state.result.state.book in
    let old = c.between.new.live.book in
    let i = heard g.N.NumberSource.came g.N.NumberSource.ended g.N.NumberSource.last c.args.source.now in
    let j = heard g.N.NumberSource.came g.N.NumberSource.ended g.N.NumberSource.last c.loop.source in
    let k = heard g.N.NumberSource.came g.N.NumberSource.ended g.N.NumberSource.last c.between.new.source in
    let x = device g.K.Sink.told g.K.Sink.faults c.args.sink.now in
    let y = device g.K.Sink.told g.K.Sink.faults c.loop.sink in
    let z = device g.K.Sink.told g.K.Sink.faults c.between.new.sink in
    let l = c.loop.invariant in
    let b = c.in-Again.ensures in
    record {
      can = tt;
      finite = tt;
      of = live_of workers some c.args.book left mid old i j k x y z l.of l.stretch b.shown.0 b.by_one c.play_round-state.ensures Again b.stretch b.adds b.shown.1;
      stretch = live_stretch workers some c.args.book left mid old i j k x y z l.of l.stretch b.shown.0 b.by_one c.play_round-state.ensures Again b.stretch b.adds b.shown.1;
    }

pub returns-in_default-between : goal.returns-in_default-between
returns-in_default-between g c =
    let workers = c.args.workers in
    let some = c.requires.workers.0 in
    let left = c.loop.live.book in
    let mid = c.play_round-state.result.state.book in
    let old = c.between.new.live.book in
    let i = heard g.N.NumberSource.came g.N.NumberSource.ended g.N.NumberSource.last c.args.source.now in
    let j = heard g.N.NumberSource.came g.N.NumberSource.ended g.N.NumberSource.last c.loop.source in
    let k = heard g.N.NumberSource.came g.N.NumberSource.ended g.N.NumberSource.last c.between.new.source in
    let x = device g.K.Sink.told g.K.Sink.faults c.args.sink.now in
    let y = device g.K.Sink.told g.K.Sink.faults c.loop.sink in
    let z = device g.K.Sink.told g.K.Sink.faults c.between.new.sink in
    let l = c.loop.invariant in
    let b = c.between.ensures in
    let r = c.between.result in
    let e = c.leave.ensures in
    record {
      of = left_of workers some c.args.book left mid old i j k x y z l.of l.stretch b.shown.0 b.by_one c.play_round-state.ensures r b.stretch b.adds b.shown.1 c.leave.result.book c.leave.result.next e.left e.job e.grown e.shown;
      stretch = left_stretch workers some c.args.book left mid old i j k x y z l.of l.stretch b.shown.0 b.by_one c.play_round-state.ensures r b.stretch b.adds b.shown.1 c.leave.result.book c.leave.result.next e.left e.job e.grown e.shown;
      left = left_says r c.leave.result.next old c.leave.result.book k e.left b.next;
      going = left_going r c.leave.result.next old c.leave.result.book e.left c.in_default-between.not-Again;
    }
