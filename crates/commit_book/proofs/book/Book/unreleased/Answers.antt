use Rattle.std.proofs.Common.{drop, ap, ◌∙◌}
use Rattle.stab_journal.specs.Due.{released}
use Rattle.print_log.specs.Log.{values}
use Rattle.commit_book.specs.Book.{BookView}
use Rattle.commit_book.proofs.Lawful.Firm.{released_final_values}
use Rattle.commit_book.proofs.book.Book.unreleased.Goals as goal

pub values_from-requires : goal.values_from-requires
values_from-requires c = released_final_values c.self.inside.job c.self.inside.parts c.self.invariant.kept

pub returns-clause-unreleased : goal.returns-clause-unreleased
returns-clause-unreleased c =
    c.values_from.ensures
    ∙ ap (λ n. drop n (values c.self.inside.parts.printed)) c.self.invariant.kept.tallied.released
    ∙ ap (λ (b : BookView). drop (released b.history.events) b.printed) c.self.view_is
