use Rattle.std.proofs.Common.{length}
use Rattle.stab_lex.proofs.Texts.{TextRun}
use Rattle.stab_lex.proofs.quoted.quoted.Given as goal

abbrev pub invariant-loop : goal.invariant-loop
invariant-loop l = TextRun l.fn.cursor l.cursor

abbrev pub decreases-loop : goal.decreases-loop
decreases-loop l = length l.cursor.rest
