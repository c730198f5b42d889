use Rattle.stab_top.proofs.Headline.{watch_shows}
use Rattle.stab_top.proofs.laws.watched_runs_are_of_the_language.Goals as goal

pub returns : goal.returns
returns c = watch_shows
