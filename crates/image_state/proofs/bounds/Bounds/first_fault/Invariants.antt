-- The lines so far have no fault.
use Rattle.std.proofs.Common.{◌≡◌, drop}
use Rattle.std.specs.Prelude.{None}
use Rattle.std.specs.Option.{option_copied}
use Rattle.image_state.specs.Held.{bounds_of}
use Rattle.image_state.specs.Fits.{first_fault}
use Rattle.image_state.proofs.bounds.Bounds.first_fault.Given as goal

abbrev pub invariant-loop-placed : goal.invariant-loop-placed
invariant-loop-placed l =
    first_fault (bounds_of l.self) None l.lines ≡ first_fault (bounds_of l.self) (option_copied l.last) (drop l.placed-index l.lines)
