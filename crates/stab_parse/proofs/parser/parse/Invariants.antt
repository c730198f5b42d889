use Rattle.std.proofs.Common.{take}
use Rattle.stab_parse.proofs.Ended.{Reaches}
use Rattle.stab_parse.proofs.parser.parse.Given as goal

abbrev pub invariant-loop-token : goal.invariant-loop-token
invariant-loop-token l = Reaches (take l.token-index l.tokens) l.parser.phase l.parser.reader
