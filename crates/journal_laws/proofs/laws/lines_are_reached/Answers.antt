use Rattle.journal_laws.proofs.Entries.{lines, nodes}
use Rattle.journal_laws.proofs.laws.lines_are_reached.Goals as goal

pub returns-clause-lines : goal.returns-clause-lines
returns-clause-lines c = lines c.args.run.now c.args.m.0 c.requires.rise c.requires.entered

pub returns-clause-nodes : goal.returns-clause-nodes
returns-clause-nodes c = nodes c.args.run.now c.args.m.0 c.requires.rise c.requires.entered
