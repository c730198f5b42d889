use Rattle.std.proofs.Common.{◌≤◌, length, ap, subst, ◌∙◌}
use Rattle.stab_journal.specs.Due.{released}
use Rattle.commit_book.specs.Book.{BookView}
use Rattle.commit_book.proofs.Lawful.Firm.{released_printed}
use Rattle.commit_book.proofs.book.Book.released.Goals as goal

pub returns-clause-released : goal.returns-clause-released
returns-clause-released c = c.self.invariant.kept.tallied.released ∙ ap (λ (b : BookView). released b.history.events) c.self.view_is

pub returns-clause-printed : goal.returns-clause-printed
returns-clause-printed c =
    subst (λ (b : BookView). c.self.inside.parts.tallies.released ≤ length b.printed) c.self.view_is
    (released_printed c.self.inside.job c.self.inside.parts c.self.invariant.kept)
