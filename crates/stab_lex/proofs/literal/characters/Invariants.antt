use Rattle.std.proofs.Common.{ℕ, List, length}
use Rattle.std.specs.String.{string_bytes}
use Rattle.stab_lex.specs.Pieces.{IsTextOf}
use Rattle.stab_lex.proofs.TextCharacters.{ReadsTo}
use Rattle.stab_lex.proofs.literal.characters.Given as goal

abbrev pub invariant-loop-c : goal.invariant-loop-c
invariant-loop-c l = (cs : List ℕ) → IsTextOf l.literal cs → ReadsTo cs l.cursor (string_bytes l.text)

abbrev pub decreases-loop-c : goal.decreases-loop-c
decreases-loop-c l = length l.cursor.rest
