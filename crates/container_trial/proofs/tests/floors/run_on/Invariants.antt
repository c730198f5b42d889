use Rattle.container_trial.proofs.tests.floors.run_on.Given as goal

abbrev pub ghosts-run-C-Ledger : goal.ghosts-run-C-Ledger
ghosts-run-C-Ledger g a = record { name = a.commits.name; parts = a.commits.parts }

abbrev pub ghosts-run-S-Ledger : goal.ghosts-run-S-Ledger
ghosts-run-S-Ledger g a = record { name = a.stale.name; parts = a.stale.parts }
