use Rattle.std.proofs.Common.{◌<◌, sym, subst}
use Rattle.std.specs.List.{All}
use Rattle.ref_log.specs.Log.{writes_of}
use Rattle.ref_log.proofs.Bounds.{struck_below}
use Rattle.container_trial.proofs.tests.writes.strike.Goals as goal

pub returns-clause-below : goal.returns-clause-below
returns-clause-below c = λ s.
    subst (λ ws. All (λ w. w.number < c.args.top) ws) (sym (c.strike.ensures.after.writes s))
    (struck_below c.args.r.0 s c.args.q.0 c.args.top (writes_of c.args.log.now s) (c.requires.below s))
