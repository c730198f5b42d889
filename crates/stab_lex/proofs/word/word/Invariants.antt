use Rattle.std.proofs.Common.{length}
use Rattle.stab_lex.specs.Pieces.{continues_name}
use Rattle.stab_lex.proofs.Ways.{Run}
use Rattle.stab_lex.proofs.word.word.Given as goal

abbrev pub invariant-loop-c : goal.invariant-loop-c
invariant-loop-c l = Run continues_name l.initial.cursor l.cursor

abbrev pub decreases-loop-c : goal.decreases-loop-c
decreases-loop-c l = length l.cursor.rest
