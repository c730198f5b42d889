-- There is an end for each list.
use Rattle.std.proofs.Common.{ap, arith, length}
use Rattle.flat_lists.proofs.Storing.{count_of_lists}
use Rattle.flat_lists.proofs.lists.FlatLists.len.Goals as goal

pub returns : goal.returns
returns g c = omega (arith, c.len.ensures, c.self.inside.ends.ok.0, ap length c.self.view_is, count_of_lists 0 c.self.inside.ends.items c.self.inside.items.items)
