use Rattle.std.proofs.Common.{◌≡◌, ◌+◌, ◌-◌, ◌≤◌, length, ap, subst, arith}
use Rattle.std.specs.Prelude.{vec_capacity}
use Rattle.print_log.specs.Log.{Prints}
use Rattle.print_log.proofs.Entries.{live-few}
use Rattle.print_log.proofs.log.PrintLog.cut.Goals as goal

pub returns-clause-spare : goal.returns-clause-spare
returns-clause-spare c =
    let few = live-few c.self.inside.recent.items in
    let none : length c.settle.new.recent.items ≡ 0 = ap length c.settle.ensures.recent in
    let capacity = c.settle.ensures.capacity in
    let room = c.self.inside.recent.ok in
    subst (λ (p : Prints). p.spare + length p.recent ≤ vec_capacity c.settle.new.recent - length c.settle.new.recent.items) c.self.view_is
    (omega (arith, few, none, capacity, room.0, room.1))
