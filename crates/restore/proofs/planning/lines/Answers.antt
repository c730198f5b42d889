use Rattle.std.proofs.Common.{◌<◌, sym, subst}
use Rattle.restore.specs.Found.{Lines}
use Rattle.restore.proofs.planning.lines.Goals as goal

pub find_all-requires-clause-spare : goal.find_all-requires-clause-spare
find_all-requires-clause-spare g c = λ q t marked. subst (λ (p : Lines). t < p.spare) (sym c.plan.view_is) (c.requires.spare q t marked)
