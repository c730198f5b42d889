use Rattle.standing_runs.proofs.Running.{run_stands}
use Rattle.standing_runs.proofs.standing.runs_stand.Goals as goal

pub returns : goal.returns
returns c = record {
  stand = run_stands c.args.program.now c.numbers_fit.ensures.valid c.numbers_fit.ensures.fit;
  counts = c.numbers_fit.ensures.valid.counts_within;
}
