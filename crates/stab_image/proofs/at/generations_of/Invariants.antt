-- The threads so far were found.
use Rattle.std.proofs.Common.{◌-◌}
use Rattle.std.specs.FinMap.{from_entries}
use Rattle.trace_verify.specs.Generations.{times}
use Rattle.stab_image.proofs.Finding.{SoFar}
use Rattle.stab_image.proofs.Listing.{IsRisingTo}
use Rattle.stab_image.proofs.at.generations_of.Given as goal

abbrev pub invariant-loop-t : goal.invariant-loop-t
invariant-loop-t l = record {
  so_far : SoFar l.state.state (times l.generations) (from_entries l.found.items) l.last;
  rising : IsRisingTo 0 l.found.items l.last;
}

abbrev pub decreases-loop-t : goal.decreases-loop-t
decreases-loop-t l = 4294967296 - l.last
