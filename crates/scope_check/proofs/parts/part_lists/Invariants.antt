use Rattle.std.proofs.Common.{◌≡◌, ◌++◌, [], drop}
use Rattle.scope_check.specs.Places.{part_lists as parts_of_each}
use Rattle.scope_check.proofs.parts.part_lists.Given as goal

abbrev pub invariant-loop-i : goal.invariant-loop-i
invariant-loop-i l = parts_of_each 0 [] l.forms ≡ l.lists ++ parts_of_each l.i l.whole.items (drop l.i l.forms)
