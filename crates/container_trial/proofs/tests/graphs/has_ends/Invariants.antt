use Rattle.container_trial.proofs.tests.graphs.has_ends.Given as goal

abbrev pub ghosts-cascade_ends : goal.ghosts-cascade_ends
ghosts-cascade_ends a = record { name = a.blank.name; parts = a.blank.parts }
