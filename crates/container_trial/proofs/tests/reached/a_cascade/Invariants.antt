use Rattle.container_trial.proofs.tests.reached.a_cascade.Given as goal

abbrev pub ghosts-play : goal.ghosts-play
ghosts-play g a = record { name = a.blank.name; parts = a.blank.parts }
