use Rattle.book_trial.proofs.tests.lists.Trial.+hold.Given as goal

abbrev pub decreases-hold : goal.decreases-hold
decreases-hold l = l.more
