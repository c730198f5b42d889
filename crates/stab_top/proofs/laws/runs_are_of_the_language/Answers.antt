use Rattle.stab_top.proofs.Headline.{run_shows}
use Rattle.stab_top.proofs.laws.runs_are_of_the_language.Goals as goal

pub returns : goal.returns
returns c = run_shows
