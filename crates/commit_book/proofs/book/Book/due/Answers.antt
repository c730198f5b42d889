use Rattle.std.proofs.Common.{ap, ◌∙◌}
use Rattle.stab_journal.specs.Due.{due}
use Rattle.commit_book.proofs.Threads.Choosing.{due_is}
use Rattle.commit_book.proofs.book.Book.due.Goals as goal

pub returns-clause-due : goal.returns-clause-due
returns-clause-due c = c.saturating_sub.ensures ∙ due_is c.self.inside.job c.self.inside.parts c.self.invariant.kept ∙ ap (λ b. due b.history.events) c.self.view_is
