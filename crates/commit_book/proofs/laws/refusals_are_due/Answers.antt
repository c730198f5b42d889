use Rattle.commit_book.proofs.Lawful.LawfulBooks.{refused}
use Rattle.commit_book.proofs.laws.refusals_are_due.Goals as goal

pub returns : goal.returns
returns c = λ b shown. refused b.job.program b.history.events shown.run shown.state shown.shows.journal.history.stands
