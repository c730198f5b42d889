use Rattle.live_rounds.proofs.Resting.{quiet_done, spent_done}
use Rattle.live_rounds.proofs.settling.look.Goals as goal

pub returns-in-Ok-Quiet-clause-says : goal.returns-in-Ok-Quiet-clause-says
returns-in-Ok-Quiet-clause-says c =
    let e = rw c.in-Ok-Quiet.field-0-is at c.in-Ok-Quiet.ensures in
    quiet_done c.args.book.now c.lease.new.self e.turn e.rests c.requires

pub returns-in-Ok-Spent-clause-says : goal.returns-in-Ok-Spent-clause-says
returns-in-Ok-Spent-clause-says c =
    let e = rw c.in-Ok-Spent.field-0-is at c.in-Ok-Spent.ensures in
    spent_done c.args.book.now c.lease.new.self e.turn c.requires
