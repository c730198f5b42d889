use Rattle.std.proofs.Common.{ap, length, arith}
use Rattle.ref_log.proofs.Found.{there-has}
use Rattle.ref_log.proofs.strike.strike.Goals as goal

pub pass_struck-requires-clause-there : goal.pass_struck-requires-clause-there
pass_struck-requires-clause-there c =
    let there = there-has c.args.references.now.items c.args.recent.now.items c.args.r.0 c.args.q.0 c.requires.linked.chained c.requires.there in
    let same = ap length c.deref_mut-2.ensures.value in
    omega arith
