use Rattle.worker_lease.proofs.Leasing.{leased}
use Rattle.worker_lease.proofs.served.lease.Goals as goal

pub returns : goal.returns
returns c =
    let e = c.lease.ensures in
    leased c.args.book.now c.lease.new.self c.args.worker c.job-before.ensures.shown e.shown c.requires.by_one c.lease.result e.turn e.rests e.spent e.err e.memory
