use Rattle.std.proofs.Common.{◌+◌, ◌≤◌, length, ap, sym, subst, ◌∙◌}
use Rattle.commit_book.specs.declared.parts.Parts.{Parts}
use Rattle.commit_book.specs.Layout.{owed}
use Rattle.commit_book.specs.Limits.{most_events}
use Rattle.commit_book.specs.Turns.{choice_of}
use Rattle.commit_book.proofs.Threads.Lending.{kept_lent}
use Rattle.commit_book.proofs.book.Book.lend.Goals as goal

pub invariant_of-self-2 : goal.invariant_of-self-2
invariant_of-self-2 c = record {
  kept = kept_lent c.self.inside.job c.self.inside.parts c.lend.new.self c.args.t c.self.invariant.kept (ap choice_of c.self.view_is ∙ c.requires.chosen) c.in_ok-lease.ensures.ok;
  short = subst (λ (x : Parts). length x.history.events + owed x ≤ most_events) (sym c.in_ok-lease.ensures.ok.rest) c.self.invariant.short;
}

pub returns-clause-shown : goal.returns-clause-shown
returns-clause-shown c = (kept_lent c.self.inside.job c.self.inside.parts c.lend.new.self c.args.t c.self.invariant.kept (ap choice_of c.self.view_is ∙ c.requires.chosen) c.in_ok-lease.ensures.ok).shown
