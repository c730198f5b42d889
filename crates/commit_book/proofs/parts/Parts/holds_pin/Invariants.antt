use Rattle.commit_book.proofs.parts.Parts.holds_pin.Given as goal

abbrev pub ghosts-holds_pin_in : goal.ghosts-holds_pin_in
ghosts-holds_pin_in a = record { name = a.blank.name; parts = a.blank.parts }
