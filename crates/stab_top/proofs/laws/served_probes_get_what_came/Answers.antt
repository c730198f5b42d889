use Rattle.stab_top.proofs.Served.{serve_gets}
use Rattle.stab_top.proofs.laws.served_probes_get_what_came.Goals as goal

pub returns : goal.returns
returns c = serve_gets
