use Rattle.std.proofs.Common.{arith}
use Rattle.thread_slots.proofs.Placed.{by_number-write}
use Rattle.thread_slots.proofs.entries.fill.Goals as goal

pub returns-clause-threads : goal.returns-clause-threads
returns-clause-threads g c = by_number-write c.args.entries.now.items c.args.t.0 c.place.result c.args.entry (omega arith) (omega (arith, c.requires.1))
