use Rattle.eval_trial.proofs.tests.thread.copy_of.Given as goal

abbrev pub ghosts-kept : goal.ghosts-kept
ghosts-kept a = record { name = a.blank.name; parts = a.blank.parts }
