use Rattle.std.proofs.Common.{ap}
use Rattle.live_rounds.proofs.Leaving.{fed_grown}
use Rattle.live_rounds.proofs.live.feed.Goals as goal

pub returns-in-Ok-commit_waiting-clause-committed :
    goal.returns-in-Ok-commit_waiting-clause-committed
returns-in-Ok-commit_waiting-clause-committed c =
    fed_grown c.args.live.now.book c.feed.new.self.book c.commit_waiting.new.self.book c.args.numbers.now (ap (λ v. v.book) c.in-Ok.ensures.ok)
    c.book-before.ensures.by_one c.feed.ensures.shown c.commit_waiting.ensures.shown c.commit_waiting.ensures.goes_on

pub returns-in-Err-clause-committed : goal.returns-in-Err-clause-committed
returns-in-Err-clause-committed c =
    fed_grown c.args.live.now.book c.feed.new.self.book c.commit_waiting.new.self.book c.args.numbers.now (ap (λ v. v.book) c.in-Ok.ensures.ok)
    c.book-before.ensures.by_one c.feed.ensures.shown c.commit_waiting.ensures.shown c.commit_waiting.ensures.goes_on
