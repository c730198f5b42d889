use Rattle.container_trial.proofs.tests.rollbacks.Nodes.numbers.Given as goal

abbrev pub ghosts-numbers_in : goal.ghosts-numbers_in
ghosts-numbers_in a = record { name = a.blank.name; parts = a.blank.parts }
