use Rattle.stab_top.proofs.Served.{serve_shows}
use Rattle.stab_top.proofs.laws.served_runs_are_of_the_language.Goals as goal

pub returns : goal.returns
returns c = serve_shows
