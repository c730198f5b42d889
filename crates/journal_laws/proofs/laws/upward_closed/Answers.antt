use Rattle.std.proofs.Common.{refl}
use Rattle.stab_journal.specs.Names.{has}
use Rattle.stab_journal.specs.Reached.{nothing_lost, reached}
use Rattle.journal_laws.proofs.Reaching.{reached_by}
use Rattle.journal_laws.proofs.Chains.{upward}
use Rattle.journal_laws.proofs.laws.upward_closed.Goals as goal

pub returns : goal.returns
returns c = upward c.args.m.0 (has (reached c.args.run.now c.args.m.0)) nothing_lost c.args.run.now (reached_by c.args.m.0 (has (reached c.args.run.now c.args.m.0)) c.args.run.now nothing_lost 1 c.requires (λ k le. refl))
