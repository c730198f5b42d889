use Rattle.std.proofs.Common.{Ok, Err, arith}
use Rattle.worker_lease.proofs.Leasing.{leased}
use Rattle.live_desk.proofs.Answering.{answered, not_lent, rung}
use Rattle.live_desk.proofs.asking.lease.Goals as goal

pub returns-then-has_rung : goal.returns-then-has_rung
returns-then-has_rung c =
    rung c.args.book.now c.args.waiting.now.items c.requires.live c.job-before.ensures.shown c.args.worker (omega (arith, c.args.waiting.now.ok, c.len.ensures, c.if-len-gt0.true))

pub returns-in-Ok : goal.returns-in-Ok
returns-in-Ok c =
    let e = c.in-Ok.ensures in
    let old = c.args.book.now in
    let new = c.lease.new.self in
    let s = leased old new c.args.worker c.job-before.ensures.shown e.shown c.requires.live.by_one (Ok c.in-Ok.turn) e.turn e.rests e.spent tt tt in
    answered old new c.args.waiting.now.items c.requires.live c.job-before.ensures.shown c.args.worker c.in-Ok.turn _ s e.turn c.answer_to.ensures

pub returns-in-Err : goal.returns-in-Err
returns-in-Err c =
    let e = c.in-Err.ensures in
    let s = leased c.args.book.now c.lease.new.self c.args.worker c.job-before.ensures.shown e.shown c.requires.live.by_one (Err _) tt tt tt e.err e.memory in
    not_lent c.args.book.now c.lease.new.self c.args.waiting.now.items c.requires.live c.args.worker _ s
