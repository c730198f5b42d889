use Rattle.stab_top.proofs.Headline.{book_of_language}
use Rattle.stab_top.proofs.laws.books_are_of_the_language.Goals as goal

pub returns : goal.returns
returns c = book_of_language
