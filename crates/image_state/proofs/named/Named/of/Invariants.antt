-- What the lines so far name.
use Rattle.std.proofs.Common.{take}
use Rattle.image_state.specs.Held.{AreNamed}
use Rattle.image_state.specs.Named.{lines_in}
use Rattle.image_state.proofs.named.Named.of.Given as goal

abbrev pub invariant-loop-placed : goal.invariant-loop-placed
invariant-loop-placed l = AreNamed l.named (lines_in (take l.placed-index l.lines))
