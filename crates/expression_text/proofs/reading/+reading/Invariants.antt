use Rattle.std.proofs.Common.{◌≡◌, ◌+◌, ◌*◌}
use Rattle.expression_text.specs.Reading.{read}
use Rattle.expression_text.proofs.Loops.{InList, InItems}
use Rattle.expression_text.proofs.reading.+reading.Given as goal

abbrev pub decreases-read : goal.decreases-read
decreases-read l = 3 * l.depth

abbrev pub decreases-read_behind : goal.decreases-read_behind
decreases-read_behind l = 3 * l.depth + 2

abbrev pub decreases-read_form : goal.decreases-read_form
decreases-read_form l = 3 * l.depth + 1

abbrev pub decreases-read_block : goal.decreases-read_block
decreases-read_block l = 3 * l.depth + 1

abbrev pub decreases-read_pair : goal.decreases-read_pair
decreases-read_pair l = 3 * l.depth + 1

abbrev pub invariant-read_form-loop : goal.invariant-read_form-loop
invariant-read_form-loop l = InList (read l.depth) l.count l.words l.parts.items l.rest l.counter × (l.head ≡ l.fn.head)

abbrev pub invariant-read_block-loop : goal.invariant-read_block-loop
invariant-read_block-loop l = InItems (read l.depth) l.count l.words l.slots.items l.parts.items l.rest l.counter
