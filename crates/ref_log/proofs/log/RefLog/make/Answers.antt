use Rattle.std.proofs.Common.{◌<◌, ◌≤◌, refl, sym, ap, subst, ◌∙◌}
use Rattle.std.specs.List.{AllByRecursion}
use Rattle.ref_log.specs.Log.{writes_of}
use Rattle.ref_log.specs.Calls.{made, IsAfter}
use Rattle.ref_log.specs.Layout.{log_of, settled_at, of_reference}
use Rattle.ref_log.proofs.CutSteps.{all-back}
use Rattle.ref_log.proofs.Views.{writes-held, after-held, kept-after}
use Rattle.ref_log.proofs.log.RefLog.make.Goals as goal

pub append-requires-clause-above : goal.append-requires-clause-above
append-requires-clause-above c =
    let a = c.self.inside in
    let seen = ap (λ l. writes_of l c.args.r.0) (sym c.self.view_is) ∙ writes-held a.last_cut.0 a.references.items a.recent c.args.r.0 c.self.invariant.linked in
    all-back (λ w. w.number < c.args.q.0) (settled_at a.references.items c.args.r.0) (of_reference c.args.r.0 a.recent.items)
    (subst (AllByRecursion (λ w. w.number < c.args.q.0)) (sym c.requires.allowed.0 ∙ seen) tt)

pub invariant_of-self : goal.invariant_of-self
invariant_of-self c =
    let a = c.self.inside in
    kept-after (made c.args.r.0 c.args.q.0 c.args.v) a.last_cut.0 a.last_cut.0 a.references.items c.append.new.references.items a.recent c.append.new.recent c.args.self.now c.self.invariant c.self.view_is c.requires.allowed c.append.ensures.linked refl c.append.ensures.writes
    (λ s. subst (AllByRecursion (λ w. w.number ≤ a.last_cut.0)) (sym (c.append.ensures.settled s)) (c.self.invariant.settled s)) c.append.ensures.few

pub returns-clause-after : goal.returns-clause-after
returns-clause-after c =
    let a = c.self.inside in
    subst (λ l. IsAfter (made c.args.r.0 c.args.q.0 c.args.v) l (log_of a.last_cut.0 c.append.new.references.items c.append.new.recent)) c.self.view_is
    (after-held (made c.args.r.0 c.args.q.0 c.args.v) a.last_cut.0 a.last_cut.0 a.references.items c.append.new.references.items a.recent c.append.new.recent c.self.invariant.linked c.append.ensures.linked refl c.append.ensures.writes)
