use Rattle.std.proofs.Common.{vec_capacity}
use Rattle.restore.proofs.Finding.{nothing_found}
use Rattle.restore.proofs.found.Found.new.Goals as goal

pub invariant_of-result : goal.invariant_of-result
invariant_of-result c = nothing_found c.new.result.items c.new-2.result.items (vec_capacity c.new-2.result) c.new.ensures.items c.new-2.ensures.items
