use Rattle.live_rounds.proofs.round.play_round.Given as goal

abbrev pub ghosts-play_named-C-Ledger : goal.ghosts-play_named-C-Ledger
ghosts-play_named-C-Ledger g a = record { name = a.commits.name; parts = a.commits.parts }

abbrev pub ghosts-play_named-S-Ledger : goal.ghosts-play_named-S-Ledger
ghosts-play_named-S-Ledger g a = record { name = a.stale.name; parts = a.stale.parts }
