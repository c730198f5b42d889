use Rattle.image_state.specs.Held.{held_parts}
use Rattle.image_state.proofs.Adding.{said_more}
use Rattle.image_state.proofs.parts.Parts.of.Goals as goal

pub loop-line-preserved : goal.loop-line-preserved
loop-line-preserved c = said_more c.loop-line.yielded c.in-Some.field-0-0 c.in-Some.line (held_parts c.loop-line.parts) (held_parts c.add.new.self) c.loop-line.invariant c.in_ok-add.ensures
