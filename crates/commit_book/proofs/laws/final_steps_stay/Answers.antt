use Rattle.commit_book.proofs.Lawful.LawfulBooks.{final_lasts}
use Rattle.commit_book.proofs.laws.final_steps_stay.Goals as goal

pub returns : goal.returns
returns c = final_lasts
