use Rattle.book_trial.proofs.tests.weights.Answers.+hold.Given as goal

abbrev pub decreases-hold : goal.decreases-hold
decreases-hold l = l.leases
