use Rattle.stab_top.proofs.Executing.{line_or_none}
use Rattle.stab_top.proofs.program.finish.Goals as goal

pub returns : goal.returns
returns g c = (c.end.ensures.number, line_or_none c.reason_line.result _ _ c.end.ensures.written c.end.ensures.silent)
