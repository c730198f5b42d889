use Rattle.std.proofs.Common.{◌≡◌, length}
use Rattle.stab_parse.specs.Moves.{settle}
use Rattle.stab_parse.proofs.reader.Reader.settle.Given as goal

abbrev pub invariant-loop-next : goal.invariant-loop-next
invariant-loop-next l = settle l.operand l.self ≡ settle l.initial.operand l.initial.self

abbrev pub decreases-loop-next : goal.decreases-loop-next
decreases-loop-next l = length l.self.frames
