-- What the lines so far say.
use Rattle.std.proofs.Common.{◌≡◌}
use Rattle.image_state.specs.Held.{held_parts}
use Rattle.image_state.specs.Named.{lines_in}
use Rattle.image_state.specs.Parts.{parts_from}
use Rattle.image_state.proofs.parts.Parts.of.Given as goal

abbrev pub invariant-loop-line : goal.invariant-loop-line
invariant-loop-line l = held_parts l.parts ≡ parts_from (lines_in l.yielded)
