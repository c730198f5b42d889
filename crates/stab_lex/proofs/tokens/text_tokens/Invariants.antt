use Rattle.std.proofs.Common.{length}
use Rattle.stab_lex.proofs.Progress.{ReadTo}
use Rattle.stab_lex.proofs.tokens.text_tokens.Given as goal

abbrev pub invariant-loop-first : goal.invariant-loop-first
invariant-loop-first l = ReadTo l.text l.cursor l.tokens.items

abbrev pub decreases-loop-first : goal.decreases-loop-first
decreases-loop-first l = length l.cursor.rest
