use Rattle.journal_laws.specs.Surviving.{is_among}
use Rattle.journal_laws.proofs.Runs.{survivor_from}
use Rattle.journal_laws.proofs.laws.survive_from.Goals as goal

pub returns : goal.returns
returns c = λ s known end is. survivor_from c.args.program.now (is_among c.args.gone.now) s c.args.run.now end known c.requires.rise c.requires.closed is
