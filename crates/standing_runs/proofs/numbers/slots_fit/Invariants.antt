-- The slots so far fit.
use Rattle.std.proofs.Common.{take}
use Rattle.std.specs.List.{AllByRecursion}
use Rattle.standing_runs.specs.Numbers.{IsSlot}
use Rattle.standing_runs.proofs.numbers.slots_fit.Given as goal

abbrev pub invariant-loop-slot : goal.invariant-loop-slot
invariant-loop-slot l = AllByRecursion IsSlot (take l.slot-index l.slots)
