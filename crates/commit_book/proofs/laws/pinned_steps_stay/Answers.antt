use Rattle.commit_book.proofs.Lawful.LawfulBooks.{pinned_lasts}
use Rattle.commit_book.proofs.laws.pinned_steps_stay.Goals as goal

pub returns : goal.returns
returns c = pinned_lasts
