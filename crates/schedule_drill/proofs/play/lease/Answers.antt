use Rattle.std.proofs.Common.{subst}
use Rattle.commit_book.specs.Turns.{IsTurn}
use Rattle.schedule_drill.proofs.Under.{lent_under, on_both}
use Rattle.schedule_drill.proofs.play.lease.Goals as goal

pub returns-in-Work-clause-under : goal.returns-in-Work-clause-under
returns-in-Work-clause-under c =
    let turn = subst (IsTurn c.args.book.now c.lease.new.self c.args.k) c.in-Work.is c.in_ok-lease.ensures.turn in
    on_both c.lent.result _ _ _
    (λ book out. lent_under c.args.book.now c.lease.new.self c.args.leases.now c.args.k c.in-Work.lease c.in-Work.control turn c.requires.under c.lent.new.book c.lent.new.leases book out)
    c.lent.ensures.book c.lent.ensures.out
