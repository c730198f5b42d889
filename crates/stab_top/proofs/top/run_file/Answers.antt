use Rattle.std.proofs.Common.{refl}
use Rattle.sink_lines.specs.Device.{device}
use Rattle.book_runs.specs.Ending.{AsReleased, shown_by}
use Rattle.call_report.specs.Report.{outcome_of}
use Rattle.stab_top.proofs.GivenRuns.{given_means, refused_says}
use Rattle.stab_top.proofs.top.run_file.Goals as goal

pub returns-in-Ok-clause-says : goal.returns-in-Ok-clause-says
returns-in-Ok-clause-says g c =
    given_means (AsReleased shown_by) (outcome_of g.K.Sink.told g.K.Sink.faults c.args.sink.now c.run_given.new.sink c.run_given.result) (g.F.Files.faults c.read_run.new.files) (device g.F.Files.held g.F.Files.faults c.args.files.now) c.args.args.now
    c.args.args.now.probes c.in-Ok.given.program c.in-Ok.given.script.items c.means_of.result.workers c.means_of.result.fuel c.means_of.result.quantum c.means_of.ensures c.in-Ok.ensures.ok c.run_given.ensures.ends

pub returns-in-Err-clause-says : goal.returns-in-Err-clause-says
returns-in-Err-clause-says g c =
    refused_says (AsReleased shown_by) (outcome_of g.K.Sink.told g.K.Sink.faults c.args.sink.now c.args.sink.now c.in-Err.report) (g.F.Files.faults c.read_run.new.files) (device g.F.Files.held g.F.Files.faults c.args.files.now) c.args.args.now
    c.args.args.now.probes c.in-Err.ensures.err (refl, refl)
