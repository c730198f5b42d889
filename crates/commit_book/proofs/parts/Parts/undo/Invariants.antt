use Rattle.commit_book.proofs.parts.Parts.undo.Given as goal

abbrev pub ghosts-lines_in : goal.ghosts-lines_in
ghosts-lines_in a = record { name = a.blank.name; parts = a.blank.parts }
