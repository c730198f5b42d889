-- The events so far have the right signs.
use Rattle.std.proofs.Common.{suc}
use Rattle.trace_verify.proofs.Signing.{IsCompared}
use Rattle.trace_verify.proofs.signs.first_wrong_sign.Given as goal

abbrev pub invariant-loop-i : goal.invariant-loop-i
invariant-loop-i l = IsCompared l.history l.run (suc l.i) l.left
