use Rattle.std.proofs.Common.{sym, ap, subst}
use Rattle.worker_lease.specs.Releases.{AreByOne}
use Rattle.live_desk.specs.Going.{IsEnded}
use Rattle.live_desk.specs.Live.{live_of}
use Rattle.live_desk.proofs.Committing.{ended, goes_by_one}
use Rattle.live_desk.proofs.desk.LiveDesk.end.Goals as goal

pub returns-clause-ended : goal.returns-clause-ended
returns-clause-ended c =
    let made = c.commit_all-made in
    subst (λ v. IsEnded v made.result c.give_all_back.result) c.self.view_is
    (ended (live_of c.self.inside.book c.self.inside.waiting.items) made.new.book c.give_all_back.result made.new.waiting.items made.result made.ensures.first made.ensures.all c.give_all_back.ensures.left)

pub returns-clause-by_one : goal.returns-clause-by_one
returns-clause-by_one c =
    let made = c.commit_all-made in
    subst AreByOne (sym (ap (λ h. h.events) c.give_all_back.ensures.same.1)) (goes_by_one c.self.inside.book made.new.book made.ensures.goes_on c.self.invariant.by_one)
