use Rattle.std.proofs.Common.{◌≡◌, ◌∙◌, ap, length, arith}
use Rattle.live_desk.proofs.Committing.{all_given_same, none_back}
use Rattle.live_desk.proofs.ending.give_all_back.Goals as goal

pub returns-clause-same : goal.returns-clause-same
returns-clause-same c =
    let none : length c.loop-lease.waiting.items ≡ 0 = omega (arith, c.loop-lease.waiting.ok, c.in_default.ensures.cases.0) in
    let left = none_back c.loop-lease.book c.args.book c.loop-lease.waiting.items c.args.waiting.items none c.loop-lease.invariant in
    let same = all_given_same c.args.book c.args.waiting.items in
    (ap (λ b. b.job) left ∙ same.0, ap (λ b. b.history) left ∙ same.1)
