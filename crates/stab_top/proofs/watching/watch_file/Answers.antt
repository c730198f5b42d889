use Rattle.std.proofs.Common.{refl, subst}
use Rattle.stab_words.specs.Command.{most_workers}
use Rattle.turn_floor.specs.Served.{AreOf}
use Rattle.sink_lines.specs.Device.{device}
use Rattle.book_runs.specs.Ending.{AsReleased}
use Rattle.call_report.specs.Report.{outcome_of}
use Rattle.book_runs.specs.Watching.{watched_by}
use Rattle.stab_top.proofs.GivenRuns.{given_means, refused_says}
use Rattle.stab_top.specs.Running.{IfBook}
use Rattle.stab_top.proofs.Watched.{refused_none}
use Rattle.stab_top.proofs.watching.watch_file.Goals as goal

pub returns-in-Ok-clause-says : goal.returns-in-Ok-clause-says
returns-in-Ok-clause-says g c = (
  given_means (AsReleased watched_by) (outcome_of g.K.Sink.told g.K.Sink.faults c.args.sink.now c.run_given.new.sink c.run_given.result) (g.F.Files.faults c.read_run.new.files) (device g.F.Files.held g.F.Files.faults c.args.files.now)
      (record c.args.args.now { workers = most_workers }) c.args.args.now.probes c.in-Ok.given.program c.in-Ok.given.script.items most_workers c.means_of.result.fuel c.means_of.result.quantum (refl, c.means_of.ensures.1, c.means_of.ensures.2) c.in-Ok.ensures.ok
      c.run_given.ensures.ends,
  subst (λ n. IfBook c.run_given.result.made (λ book. AreOf n book.history.events)) c.means_of.ensures.0 c.run_given.ensures.named,
)

pub returns-in-Err-clause-says : goal.returns-in-Err-clause-says
returns-in-Err-clause-says g c = (
  refused_says (AsReleased watched_by) (outcome_of g.K.Sink.told g.K.Sink.faults c.args.sink.now c.args.sink.now c.in-Err.report) (g.F.Files.faults c.read_run.new.files) (device g.F.Files.held g.F.Files.faults c.args.files.now)
      (record c.args.args.now { workers = most_workers }) c.args.args.now.probes c.in-Err.ensures.err (refl, refl),
  refused_none (AreOf c.args.args.now.workers) (device g.F.Files.held g.F.Files.faults c.args.files.now) (g.F.Files.faults c.read_run.new.files) c.args.args.now.file c.args.args.now.probes c.in-Err.report c.in-Err.ensures.err,
)
