use Rattle.std.proofs.Common.{length}
use Rattle.stab_lex.specs.Pieces.{is_in_line}
use Rattle.stab_lex.proofs.Ways.{Run}
use Rattle.stab_lex.proofs.separator.skip_line.Given as goal

abbrev pub invariant-loop-c : goal.invariant-loop-c
invariant-loop-c l = Run is_in_line l.fn.cursor l.cursor

abbrev pub decreases-loop-c : goal.decreases-loop-c
decreases-loop-c l = length l.cursor.rest
