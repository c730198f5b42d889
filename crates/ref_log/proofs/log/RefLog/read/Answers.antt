use Rattle.std.proofs.Common.{sym, ap, subst, ◌∙◌}
use Rattle.ref_log.specs.Log.{last_of, writes_of, IsSound}
use Rattle.ref_log.specs.Layout.{held}
use Rattle.ref_log.proofs.Views.{writes-held, has-writes, none-exactly}
use Rattle.ref_log.proofs.log.RefLog.read.Goals as goal

pub returns-clause-last : goal.returns-clause-last
returns-clause-last c =
    let a = c.self.inside in
    c.last.ensures
    ∙ ap (λ xs. last_of (held xs c.deref-2.result.now c.args.r.0)) c.deref.ensures.value
    ∙ ap (λ es. last_of (held a.references.items es c.args.r.0)) c.deref-2.ensures.value
    ∙ ap last_of (sym (writes-held a.last_cut.0 a.references.items a.recent c.args.r.0 c.self.invariant.linked))
    ∙ ap (λ l. last_of (writes_of l c.args.r.0)) c.self.view_is

pub returns-clause-sound : goal.returns-clause-sound
returns-clause-sound c =
    let a = c.self.inside in
    subst IsSound c.self.view_is (record { order = c.self.invariant.order; there = λ r. has-writes a.last_cut.0 a.references.items a.recent r })

pub returns-clause-absent : goal.returns-clause-absent
returns-clause-absent c = none-exactly _ c.last.result (writes_of c.args.self.now c.args.r.0) (returns-clause-last c)
