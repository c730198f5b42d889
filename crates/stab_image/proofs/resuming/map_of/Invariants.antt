-- The pairs so far are in the map.
use Rattle.std.proofs.Common.{◌≡◌, take}
use Rattle.stab_image.proofs.resuming.map_of.Given as goal

abbrev pub invariant-loop-pair : goal.invariant-loop-pair
invariant-loop-pair l = l.map.entries ≡ take l.pair-index l.pairs
