use Rattle.journal_laws.specs.Surviving.{is_among}
use Rattle.journal_laws.proofs.Runs.{survivor}
use Rattle.journal_laws.proofs.laws.survive.Goals as goal

pub returns : goal.returns
returns c = λ s r. survivor c.args.program.now (is_among c.args.gone.now) c.args.run.now s c.requires r
