use Rattle.std.proofs.Common.{refl, subst}
use Rattle.sink_lines.specs.Device.{device}
use Rattle.worker_rounds.proofs.Sharing.{not_begun}
use Rattle.watched_rounds.proofs.watched.run_shown.Goals as goal

pub returns-in_default : goal.returns-in_default
returns-in_default g c =
    not_begun c.args.workers (g.D.Kept.job_of c.args.state) (g.D.Kept.job_of c.args.state) (g.D.Kept.events_of c.args.state) (device g.K.Sink.told g.K.Sink.faults c.args.sink.now) refl c.requires.empty
