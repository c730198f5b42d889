use Rattle.std.proofs.Common.{◌-◌}
use Rattle.image_text.specs.ImageText.{reference_line}
use Rattle.image_text.proofs.Going.{IsGoing}
use Rattle.image_text.proofs.writing.put_references.Given as goal

abbrev pub invariant-loop-r : goal.invariant-loop-r
invariant-loop-r l = IsGoing reference_line l.state.state.references l.last l.initial.out.items l.out.items

abbrev pub decreases-loop-r : goal.decreases-loop-r
decreases-loop-r l = 4294967296 - l.last
