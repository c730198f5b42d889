use Rattle.std.proofs.Common.{sym, ap, ◌∙◌, subst}
use Rattle.rendezvous.specs.Line.{AreThere}
use Rattle.rendezvous.proofs.CallerLemmas.{AreThere-Send, AreThere-Recv, AreThere-Pick}
use Rattle.container_trial.proofs.tests.offers.has_channels.Goals as goal

pub returns-in-Send : goal.returns-in-Send
returns-in-Send c e = subst (AreThere c.args.offers.now.lines) (sym c.in-Send.is) (AreThere-Send c.args.offers.now.lines c.in-Send.a (sym c.contains.ensures ∙ e))
