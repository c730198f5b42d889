use Rattle.std.proofs.Common.{◌≡◌, length}
use Rattle.restore.proofs.found.Found.clear.Given as goal

abbrev pub invariant-loop : goal.invariant-loop
invariant-loop l = l.self.spare ≡ l.fn.self.spare

abbrev pub decreases-loop : goal.decreases-loop
decreases-loop l = length l.self.touched
