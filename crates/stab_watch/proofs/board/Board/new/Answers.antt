use Rattle.std.proofs.Common.{rules}
use Rattle.stab_watch.proofs.Keeps.{opens}
use Rattle.stab_watch.proofs.board.Board.new.Goals as goal

pub ruled-requires : goal.ruled-requires
ruled-requires c = (search rules, (search rules, opens))
