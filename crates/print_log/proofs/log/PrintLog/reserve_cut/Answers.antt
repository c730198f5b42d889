use Rattle.std.proofs.Common.{arith}
use Rattle.print_log.proofs.Entries.{live-few}
use Rattle.print_log.proofs.log.PrintLog.reserve_cut.Goals as goal

pub returns-clause-places : goal.returns-clause-places
returns-clause-places c =
    let few = live-few c.self.inside.recent.items in
    let ensures = c.in_ok-reserve.ensures in
    omega (arith, few, ensures.ok, c.len.ensures, ensures.len)
