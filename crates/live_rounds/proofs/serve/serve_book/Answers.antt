use Rattle.std.proofs.Common.{arith, rules}
use Rattle.sink_lines.specs.Device.{device}
use Rattle.live_rounds.specs.Going.{halt_of}
use Rattle.live_rounds.specs.Numbers.{heard}
use Rattle.live_rounds.proofs.Serving.{ended_served, part_served, served_as}
use Rattle.live_rounds.proofs.serve.serve_book.Goals as goal

pub returns-then-ne : goal.returns-then-ne
returns-then-ne g c =
    let old = c.args.book in
    let new = c.serve_live-book.result.book in
    let next = c.serve_live-book.result.next in
    let i = heard g.N.NumberSource.came g.N.NumberSource.ended g.N.NumberSource.last c.args.source.now in
    let j = heard g.N.NumberSource.came g.N.NumberSource.ended g.N.NumberSource.last c.serve_live-book.new.source in
    let x = device g.K.Sink.told g.K.Sink.faults c.args.sink.now in
    let y = device g.K.Sink.told g.K.Sink.faults c.serve_live-book.new.sink in
    let p = c.serve_live-book.ensures in
    served_as c.args.workers (halt_of next) c.leave.result.halt old new c.leave.result.book i j x y c.leave.ensures.halt c.leave.ensures.book
    (part_served c.args.workers next old new i j x y c.requires.starts p.of p.stretch p.says (λ e. grind (arith, e)))

pub returns : goal.returns
returns g c =
    let old = c.args.book in
    let mid = c.serve_live-book.result.book in
    let new = c.play_closed-book.result.book in
    let first = c.serve_live-book.result.next in
    let next = c.play_closed-book.result.next in
    let i = heard g.N.NumberSource.came g.N.NumberSource.ended g.N.NumberSource.last c.args.source.now in
    let j = heard g.N.NumberSource.came g.N.NumberSource.ended g.N.NumberSource.last c.serve_live-book.new.source in
    let x = device g.K.Sink.told g.K.Sink.faults c.args.sink.now in
    let y = device g.K.Sink.told g.K.Sink.faults c.serve_live-book.new.sink in
    let z = device g.K.Sink.told g.K.Sink.faults c.play_closed-book.new.sink in
    let p = c.serve_live-book.ensures in
    let q = c.play_closed-book.ensures in
    served_as c.args.workers (halt_of next) c.leave-2.result.halt old new c.leave-2.result.book i j x z c.leave-2.ensures.halt c.leave-2.ensures.book
    (ended_served c.args.workers first next old mid new i j x y z (search rules) c.requires.starts p.stretch p.says q.of q.job q.wrote q.says)
