use Rattle.worker_trial.proofs.two.gate_two.Given as goal

abbrev pub ghosts-work_anew-C-Ledger : goal.ghosts-work_anew-C-Ledger
ghosts-work_anew-C-Ledger g a = record { name = a.commits.name; parts = a.commits.parts }

abbrev pub ghosts-work_anew-S-Ledger : goal.ghosts-work_anew-S-Ledger
ghosts-work_anew-S-Ledger g a = record { name = a.stale.name; parts = a.stale.parts }
