use Rattle.std.proofs.Common.{refl}
use denote.Param.Send.{sendable}
use Rattle.std.proofs.Crossing.{crosses}
use Rattle.worker_lease.proofs.Crossing.{desk-send}
use Rattle.sink_lines.specs.Device.{device}
use Rattle.live_rounds.specs.declared.next.Next.TheVariants.{Again}
use Rattle.live_rounds.proofs.Stepping.{closed_job, closed_next, closed_of, closed_wrote, round_of}
use Rattle.live_rounds.proofs.Writing.{wrote_none}
use Rattle.live_rounds.proofs.closed.play_closed.Goals as goal

pub loop-init : goal.loop-init
loop-init g c = record {
  can = tt;
  finite = tt;
  of = c.requires.of;
  job = refl;
  wrote = wrote_none c.args.book c.args.book (device g.K.Sink.told g.K.Sink.faults c.args.sink.now) refl;
}

pub play_round-state-requires-send-D : goal.play_round-state-requires-send-D
play_round-state-requires-send-D g c κs within = search (desk-send, sendable, crosses) depth 40

pub loop-preserved : goal.loop-preserved
loop-preserved g c =
    let workers = c.args.workers in
    let some = c.requires.workers.0 in
    let left = c.loop.left in
    let mid = c.into_book-left.result in
    let old = c.after_round-next.new.book in
    let new = c.settle.new.book in
    let x = device g.K.Sink.told g.K.Sink.faults c.args.sink.now in
    let y = device g.K.Sink.told g.K.Sink.faults c.loop.sink in
    let z = device g.K.Sink.told g.K.Sink.faults c.after_round-next.new.sink in
    let i = c.loop.invariant in
    let b = c.into_book-left.ensures in
    let r = c.after_round-next.ensures in
    let s = c.in-Again.ensures in
    let round = round_of workers left c.new-desk.result c.play_round-state.result.state mid c.new-desk.ensures b.book c.play_round-state.ensures in
    record {
      can = tt;
      finite = tt;
      of = closed_of workers some c.args.book left mid old new x y z i.of i.job i.wrote b.shown b.by_one round c.after_round-next.result Again r.put r.shown.1 s.shown s.stays s.says;
      job = closed_job workers some c.args.book left mid old new x y z i.of i.job i.wrote b.shown b.by_one round c.after_round-next.result Again r.put r.shown.1 s.shown s.stays s.says;
      wrote = closed_wrote workers some c.args.book left mid old new x y z i.of i.job i.wrote b.shown b.by_one round c.after_round-next.result Again r.put r.shown.1 s.shown s.stays s.says;
    }

pub returns-in_default : goal.returns-in_default
returns-in_default g c =
    let workers = c.args.workers in
    let some = c.requires.workers.0 in
    let left = c.loop.left in
    let mid = c.into_book-left.result in
    let old = c.after_round-next.new.book in
    let new = c.settle.new.book in
    let x = device g.K.Sink.told g.K.Sink.faults c.args.sink.now in
    let y = device g.K.Sink.told g.K.Sink.faults c.loop.sink in
    let z = device g.K.Sink.told g.K.Sink.faults c.after_round-next.new.sink in
    let i = c.loop.invariant in
    let b = c.into_book-left.ensures in
    let r = c.after_round-next.ensures in
    let s = c.settle.ensures in
    let round = round_of workers left c.new-desk.result c.play_round-state.result.state mid c.new-desk.ensures b.book c.play_round-state.ensures in
    record {
      of = closed_of workers some c.args.book left mid old new x y z i.of i.job i.wrote b.shown b.by_one round c.after_round-next.result c.settle.result r.put r.shown.1 s.shown s.stays s.says;
      job = closed_job workers some c.args.book left mid old new x y z i.of i.job i.wrote b.shown b.by_one round c.after_round-next.result c.settle.result r.put r.shown.1 s.shown s.stays s.says;
      wrote = closed_wrote workers some c.args.book left mid old new x y z i.of i.job i.wrote b.shown b.by_one round c.after_round-next.result c.settle.result r.put r.shown.1 s.shown s.stays s.says;
      says = closed_next workers some c.args.book left mid old new x y z i.of i.job i.wrote b.shown b.by_one round c.after_round-next.result c.settle.result r.put r.shown.1 s.shown s.stays s.says r.going c.in_default.not-Again;
    }
