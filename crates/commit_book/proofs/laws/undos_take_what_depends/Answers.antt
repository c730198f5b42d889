use Rattle.commit_book.proofs.Lawful.LawfulBooks.{granted}
use Rattle.commit_book.proofs.laws.undos_take_what_depends.Goals as goal

pub returns : goal.returns
returns c = λ b shown. granted b.job.program b.history.events shown.run shown.state shown.shows.journal.history.stands
