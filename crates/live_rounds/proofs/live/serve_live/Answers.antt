use Rattle.sink_lines.specs.Device.{device}
use Rattle.live_rounds.specs.declared.next.Next.TheVariants.{Again}
use Rattle.live_rounds.specs.Numbers.{heard}
use Rattle.live_rounds.proofs.Stepping.{part_next, part_of, part_stretch, part_within}
use Rattle.live_rounds.proofs.Writing.{stretch_none}
use Rattle.live_rounds.proofs.live.serve_live.Goals as goal

pub loop-init : goal.loop-init
loop-init g c = record {
  can = tt;
  finite = tt;
  of = c.requires.of;
  within = c.requires.within;
  stretch = stretch_none c.args.book (heard g.N.NumberSource.came g.N.NumberSource.ended g.N.NumberSource.last c.args.source.now) (device g.K.Sink.told g.K.Sink.faults c.args.sink.now);
}

pub loop-preserved : goal.loop-preserved
loop-preserved g c =
    let workers = c.args.workers in
    let left = c.loop.left in
    let old = c.play_live-book.result.book in
    let new = c.settle.new.book in
    let i = heard g.N.NumberSource.came g.N.NumberSource.ended g.N.NumberSource.last c.args.source.now in
    let j = heard g.N.NumberSource.came g.N.NumberSource.ended g.N.NumberSource.last c.loop.source in
    let k = heard g.N.NumberSource.came g.N.NumberSource.ended g.N.NumberSource.last c.play_live-book.new.source in
    let x = device g.K.Sink.told g.K.Sink.faults c.args.sink.now in
    let y = device g.K.Sink.told g.K.Sink.faults c.loop.sink in
    let z = device g.K.Sink.told g.K.Sink.faults c.play_live-book.new.sink in
    let p = c.play_live-book.ensures in
    let s = c.in-Again.ensures in
    let first = c.play_live-book.result.next in
    record {
      can = tt;
      finite = tt;
      of = part_of workers c.args.book left old new i j k x y z c.loop.invariant.stretch first Again p.of p.stretch s.shown s.stays s.says;
      within = part_within first old new k s.says s.stays p.left p.going;
      stretch = part_stretch workers c.args.book left old new i j k x y z c.loop.invariant.stretch first Again p.of p.stretch s.shown s.stays s.says;
    }

pub returns-in_default : goal.returns-in_default
returns-in_default g c =
    let workers = c.args.workers in
    let left = c.loop.left in
    let old = c.play_live-book.result.book in
    let new = c.settle.new.book in
    let i = heard g.N.NumberSource.came g.N.NumberSource.ended g.N.NumberSource.last c.args.source.now in
    let j = heard g.N.NumberSource.came g.N.NumberSource.ended g.N.NumberSource.last c.loop.source in
    let k = heard g.N.NumberSource.came g.N.NumberSource.ended g.N.NumberSource.last c.play_live-book.new.source in
    let x = device g.K.Sink.told g.K.Sink.faults c.args.sink.now in
    let y = device g.K.Sink.told g.K.Sink.faults c.loop.sink in
    let z = device g.K.Sink.told g.K.Sink.faults c.play_live-book.new.sink in
    let p = c.play_live-book.ensures in
    let s = c.settle.ensures in
    let first = c.play_live-book.result.next in
    let next = c.settle.result in
    record {
      of = part_of workers c.args.book left old new i j k x y z c.loop.invariant.stretch first next p.of p.stretch s.shown s.stays s.says;
      stretch = part_stretch workers c.args.book left old new i j k x y z c.loop.invariant.stretch first next p.of p.stretch s.shown s.stays s.says;
      says = part_next workers c.args.book left old new i j k x y z c.loop.invariant.stretch first next p.of p.stretch s.shown s.stays s.says p.left p.going c.in_default.not-Again;
    }
