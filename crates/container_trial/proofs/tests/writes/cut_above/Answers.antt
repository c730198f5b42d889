use Rattle.std.proofs.Common.{◌<◌, sym, subst, arith}
use Rattle.std.specs.List.{All}
use Rattle.ref_log.specs.Log.{writes_of}
use Rattle.ref_log.proofs.Bounds.{not_listed, kept_below}
use Rattle.container_trial.proofs.tests.writes.cut_above.Goals as goal

pub cut-requires : goal.cut-requires
cut-requires c = ((λ r. not_listed c.args.q.0 (writes_of c.args.log.now r) (c.requires.below r)), omega (arith, c.requires.last_cut))

pub returns-clause-below : goal.returns-clause-below
returns-clause-below c = λ r.
    subst (λ ws. All (λ w. w.number < c.args.q.0) ws) (sym (c.cut.ensures.after.writes r))
    (kept_below c.args.q.0 c.args.q.0 (writes_of c.args.log.now r) (c.requires.below r))
