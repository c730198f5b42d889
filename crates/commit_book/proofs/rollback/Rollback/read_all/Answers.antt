use Rattle.commit_book.proofs.Keeping.ReadSteps.{own_rises}
use Rattle.commit_book.proofs.rollback.Rollback.read_all.Goals as goal

pub returns-clause-rising : goal.returns-clause-rising
returns-clause-rising c = λ t. own_rises c.args.history.now c.loop-self.self t c.loop-self.invariant.read c.len.ensures.survivors
