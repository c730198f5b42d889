use Rattle.std.proofs.Common.{◌≡◌, ◌+◌, ◌*◌, [], length, take}
use Rattle.scope_check.proofs.Made.{SoFar}
use Rattle.scope_check.proofs.plan.Plan.+forms.Given as goal

abbrev pub decreases-form : goal.decreases-form
decreases-form l = 4 * l.at + 2

abbrev pub decreases-operands : goal.decreases-operands
decreases-operands l = 4 * l.at

abbrev pub decreases-block : goal.decreases-block
decreases-block l = 4 * l.at + 1

abbrev pub decreases-block_parts : goal.decreases-block_parts
decreases-block_parts l = 4 * l.at

abbrev pub decreases-part : goal.decreases-part
decreases-part l = 4 * l.at + 3

abbrev pub invariant-operands-loop-part : goal.invariant-operands-loop-part
invariant-operands-loop-part l = record {
  far : SoFar l.self.bytes.now l.self.functions.now l.arity l.self.forms.now l.at l.fn.progress l.progress [] l.part-index;
  seen : l.progress.seen.items ≡ l.fn.progress.seen.items;
}

abbrev pub invariant-block_parts-loop-i : goal.invariant-block_parts-loop-i
invariant-block_parts-loop-i l = record {
  far : SoFar l.self.bytes.now l.self.functions.now l.arity l.self.forms.now l.at l.fn.progress l.progress l.slots.items l.i;
  seen : take (length l.fn.progress.seen.items) l.progress.seen.items ≡ l.fn.progress.seen.items;
}
