use Rattle.commit_book.proofs.Lawful.LawfulBooks.{has_run}
use Rattle.commit_book.proofs.laws.books_show_a_run.Goals as goal

pub returns : goal.returns
returns c = has_run
