use Rattle.std.proofs.Common.{arith}
use Rattle.linked_lists.proofs.Held.{IsRing-new}
use Rattle.linked_lists.proofs.lists.Lists.new.Goals as goal

pub invariant_of-result : goal.invariant_of-result
invariant_of-result c = record {
  ring = IsRing-new c.new.result.items c.new-2.result.items c.new.ensures.items c.new-2.ensures.items;
  few_lists = rw c.new.ensures.items (omega arith);
  few_places = rw c.new-2.ensures.items (omega arith);
}
