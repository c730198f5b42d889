use Rattle.std.proofs.Common.{◌≡◌, length}
use Rattle.stab_parse.specs.Moves.{settle_if}
use Rattle.stab_parse.proofs.reader.Reader.settle_if.Given as goal

abbrev pub invariant-loop-outer : goal.invariant-loop-outer
invariant-loop-outer l = settle_if l.place l.parts l.self ≡ settle_if l.initial.place l.initial.parts l.initial.self

abbrev pub decreases-loop-outer : goal.decreases-loop-outer
decreases-loop-outer l = length l.self.frames
