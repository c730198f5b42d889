use Rattle.std.proofs.Common.{refl, subst, arith}
use Rattle.ref_log.specs.Log.{IsRising}
use Rattle.ref_log.specs.Calls.{cut, IsAfter}
use Rattle.ref_log.specs.Layout.{log_of}
use Rattle.ref_log.proofs.Views.{writes-held, after-held, kept-after}
use Rattle.ref_log.proofs.log.RefLog.cut.Goals as goal

pub cut-requires-clause-rising : goal.cut-requires-clause-rising
cut-requires-clause-rising c = λ s.
    let a = c.self.inside in
    subst IsRising (writes-held a.last_cut.0 a.references.items a.recent s c.self.invariant.linked) (c.self.invariant.order.rising s)

pub invariant_of-self : goal.invariant_of-self
invariant_of-self c =
    let a = c.self.inside in
    kept-after (cut c.args.q.0) a.last_cut.0 c.args.q.0 a.references.items c.cut.new.references.items a.recent c.cut.new.recent c.args.self.now c.self.invariant c.self.view_is c.requires c.cut.ensures.linked refl c.cut.ensures.writes
    c.cut.ensures.settled (omega (arith, c.cut.ensures.fewer, c.self.invariant.few))

pub returns-clause-after : goal.returns-clause-after
returns-clause-after c =
    let a = c.self.inside in
    subst (λ l. IsAfter (cut c.args.q.0) l (log_of c.args.q.0 c.cut.new.references.items c.cut.new.recent)) c.self.view_is
    (after-held (cut c.args.q.0) a.last_cut.0 c.args.q.0 a.references.items c.cut.new.references.items a.recent c.cut.new.recent c.self.invariant.linked c.cut.ensures.linked refl c.cut.ensures.writes)
