use Rattle.commit_book.proofs.parts.Parts.plan_undo.Given as goal

abbrev pub ghosts-reach_in : goal.ghosts-reach_in
ghosts-reach_in a = record { name = a.blank.name; parts = a.blank.parts }
