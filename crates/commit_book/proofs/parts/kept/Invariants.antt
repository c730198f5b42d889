use Rattle.commit_book.proofs.parts.kept.Given as goal

abbrev pub ghosts-kept_in : goal.ghosts-kept_in
ghosts-kept_in a = record { name = a.blank.name; parts = a.blank.parts }
