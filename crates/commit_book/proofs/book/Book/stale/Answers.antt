use Rattle.commit_book.proofs.Threads.Recounted.{kept_recounted}
use Rattle.commit_book.proofs.book.Book.stale.Goals as goal

pub invariant_of-self : goal.invariant_of-self
invariant_of-self c = record { kept = kept_recounted c.self.inside.job c.self.inside.parts c.self.inside.parts.tallies.commits c.saturating_add-self-inside.result c.self.invariant.kept; short = c.self.invariant.short }

pub returns-clause-shown : goal.returns-clause-shown
returns-clause-shown c = (kept_recounted c.self.inside.job c.self.inside.parts c.self.inside.parts.tallies.commits c.saturating_add-self-inside.result c.self.invariant.kept).shown
