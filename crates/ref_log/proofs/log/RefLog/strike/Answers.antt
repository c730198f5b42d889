use Rattle.std.proofs.Common.{◌≡◌, ◌<◌, ◌≤◌, ◌++◌, ℕ, cond, nat_eq, refl, sym, ap, subst, ◌∙◌, arith}
use Rattle.std.specs.List.{AllByRecursion}
use Rattle.ref_log.specs.Log.{IsRising, writes_of, has_write, without}
use Rattle.ref_log.specs.Calls.{struck, IsAfter}
use Rattle.ref_log.specs.Layout.{log_of, held, settled_at, of_reference}
use Rattle.ref_log.proofs.Views.{writes-held, after-held, kept-after, has-recent, rising-back, struck-held}
use Rattle.ref_log.proofs.log.RefLog.strike.Goals as goal

pub strike-requires-clause-there : goal.strike-requires-clause-there
strike-requires-clause-there c =
    let a = c.self.inside in
    let seen = ap (λ l. writes_of l c.args.r.0) (sym c.self.view_is) ∙ writes-held a.last_cut.0 a.references.items a.recent c.args.r.0 c.self.invariant.linked in
    has-recent a.last_cut.0 c.args.q.0 (settled_at a.references.items c.args.r.0) (of_reference c.args.r.0 a.recent.items) (c.self.invariant.settled c.args.r.0) (subst (λ l. l.last_cut < c.args.q.0) (sym c.self.view_is) c.requires.1)
    (ap (has_write c.args.q.0) (sym seen) ∙ c.requires.0)

pub strike-requires-clause-rising : goal.strike-requires-clause-rising
strike-requires-clause-rising c =
    let a = c.self.inside in
    rising-back (settled_at a.references.items c.args.r.0) (of_reference c.args.r.0 a.recent.items)
    (subst IsRising (writes-held a.last_cut.0 a.references.items a.recent c.args.r.0 c.self.invariant.linked) (c.self.invariant.order.rising c.args.r.0))

writes : (c : goal.After-strike) → (s : ℕ) → held c.strike.new.references.items c.strike.new.recent.items s ≡ cond (nat_eq c.args.r.0 s) (without c.args.q.0 (held c.self.inside.references.items c.self.inside.recent.items s)) (held c.self.inside.references.items c.self.inside.recent.items s)
writes c s =
    let a = c.self.inside in
    ap (λ ws. ws ++ of_reference s c.strike.new.recent.items) (c.strike.ensures.settled s)
    ∙ ap (λ ws. settled_at a.references.items s ++ ws) (c.strike.ensures.recent s)
    ∙ struck-held a.last_cut.0 c.args.q.0 (nat_eq c.args.r.0 s) (settled_at a.references.items s) (of_reference s a.recent.items) (c.self.invariant.settled s) (subst (λ l. l.last_cut < c.args.q.0) (sym c.self.view_is) c.requires.1)

pub invariant_of-self : goal.invariant_of-self
invariant_of-self c =
    let a = c.self.inside in
    kept-after (struck c.args.r.0 c.args.q.0) a.last_cut.0 a.last_cut.0 a.references.items c.strike.new.references.items a.recent c.strike.new.recent c.args.self.now c.self.invariant c.self.view_is c.requires c.strike.ensures.linked refl (writes c)
    (λ s. subst (AllByRecursion (λ w. w.number ≤ a.last_cut.0)) (sym (c.strike.ensures.settled s)) (c.self.invariant.settled s)) (omega (arith, c.strike.ensures.fewer, c.self.invariant.few))

pub returns-clause-after : goal.returns-clause-after
returns-clause-after c =
    let a = c.self.inside in
    subst (λ l. IsAfter (struck c.args.r.0 c.args.q.0) l (log_of a.last_cut.0 c.strike.new.references.items c.strike.new.recent)) c.self.view_is
    (after-held (struck c.args.r.0 c.args.q.0) a.last_cut.0 a.last_cut.0 a.references.items c.strike.new.references.items a.recent c.strike.new.recent c.self.invariant.linked c.strike.ensures.linked refl (writes c))
