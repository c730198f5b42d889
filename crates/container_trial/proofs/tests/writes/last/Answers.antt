use Rattle.std.proofs.Common.{sym}
use Rattle.ref_log.specs.Log.{writes_of}
use Rattle.ref_log.proofs.Bounds.{last_listed}
use Rattle.container_trial.proofs.tests.writes.last.Goals as goal

pub returns : goal.returns
returns c = last_listed (writes_of c.args.log.now c.args.r) _ (sym c.in_ok-read.ensures.last)
