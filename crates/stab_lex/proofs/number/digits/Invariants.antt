use Rattle.std.proofs.Common.{length}
use Rattle.stab_lex.proofs.Numbers.{DigitRun}
use Rattle.stab_lex.proofs.number.digits.Given as goal

abbrev pub invariant-loop-c : goal.invariant-loop-c
invariant-loop-c l = DigitRun l.value l.fn.cursor l.cursor

abbrev pub decreases-loop-c : goal.decreases-loop-c
decreases-loop-c l = length l.cursor.rest
