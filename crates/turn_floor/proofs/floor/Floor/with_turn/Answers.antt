use Rattle.std.proofs.Common.{◌≡◌, ◌∷◌, [], List, ℕ, ap, sym, refl, ◌∙◌, subst, ◌<◌, ◌+◌, length, arith, ◌++◌}
use Rattle.stab_code.specs.JobParts.{JobParts}
use Rattle.stab_journal.specs.Own.{own}
use Rattle.stab_journal.specs.declared.event.Recorded.{Recorded}
use Rattle.stab_journal.specs.declared.event.Event.{Event}
use Rattle.turn_floor.specs.Counts.{once}
use Rattle.turn_floor.specs.Parts.{floor_of, pass_of}
use Rattle.turn_floor.specs.Served.{AreOf, told_events}
use Rattle.turn_floor.specs.Turns.{IsTurn}
use Rattle.turn_floor.proofs.Turning.{still_pass}
use Rattle.turn_floor.proofs.floor.Floor.with_turn.Goals as goal

pub turn-answer-requires : goal.turn-answer-requires
turn-answer-requires g c =
    let view = c.pass.view_is in
    let is = c.pass.invariant.3 in
    let floor = ap (λ p. p.floor) view ∙ c.requires.own in
    let worker = ap (λ p. p.worker) view in
    let number = sym worker in
    record {
      id = ap (λ f. f.table) floor;
      live = (c.pass.invariant.0, omega (arith, is.one_seat));
      worker = ((is.positive, omega (arith, is.within, is.few)), is.number_is, is.within);
      fits = subst (λ (z : JobParts × ℕ). g.K.Kept.asks z.0 z.1 c.args.ask) (λ i. (ap (λ f. f.start.job) (sym floor) i, number i)) c.requires.fits;
      parts = (omega (arith, c.pass.invariant.1), omega (arith, c.pass.invariant.2));
    }

pub invariant_of-pass : goal.invariant_of-pass
invariant_of-pass g c =
    let e = c.turn-answer.ensures in (
      ap (λ m. m.1) e.view,
      e.parts.0 ∙ c.pass.invariant.1,
      e.parts.1 ∙ c.pass.invariant.2,
      still_pass c.pass.inside.seat.me.0 c.turn-answer.new.seat.me.0 _ _ _ c.pass.invariant.3 (ap (λ m. m.0) e.view) (sym e.len),
    )

pub returns-clause-served : goal.returns-clause-served
returns-clause-served g c =
    let K = g.K.Kept in
    let view = c.pass.view_is in
    let floor = ap (λ p. p.floor) view ∙ c.requires.own in
    let job = ap (λ f. f.start.job) floor in
    let worker = ap (λ p. p.worker) view in
    let seen = ap (λ p. p.seen) view in
    subst (λ (z : JobParts × ℕ × List Event). (before : g.row.K.Denot) × (after : g.row.K.Denot) × K.serves before z.1 c.args.ask c.turn-answer.result.0 after × IsTurn K.job_of K.events_of z.0 z.1 z.2 (K.told_of c.turn-answer.result.0) c.turn-answer.new.seat.me.0.seen before after)
    (λ i. (job i, worker i, seen i)) c.turn-answer.ensures.served

pub returns-clause-fits : goal.returns-clause-fits
returns-clause-fits g c =
    let floor = ap (λ p. p.floor) c.pass.view_is ∙ c.requires.own in
    subst (λ (j : JobParts). g.K.Kept.answers j c.turn-answer.new.seat.me.0.seen c.turn-answer.result.0) (ap (λ f. f.start.job) floor) c.turn-answer.ensures.fits

pub returns-clause-own : goal.returns-clause-own
returns-clause-own g c =
    let is = c.pass.invariant.3 in
    let worker = ap (λ p. p.worker) c.pass.view_is in
    let seen = ap (λ p. p.seen) c.pass.view_is in
    let told : List Recorded = told_events (g.K.Kept.told_of c.turn-answer.result.0) c.turn-answer.new.seat.me.0.seen in
    subst (λ (n : ℕ). own n c.turn-answer.new.seat.me.0.seen ≡ own n c.args.pass.now.seen ++ told) worker
    (c.turn-answer.ensures.own ∙ ap (λ (l : List Recorded). l ++ told) (is.own_is ∙ (λ i. own (is.number_is i) (seen i))))

pub returns-clause-named : goal.returns-clause-named
returns-clause-named g c =
    let floor = ap (λ p. p.floor) c.pass.view_is ∙ c.requires.own in
    subst (λ (n : ℕ). AreOf n c.turn-answer.new.seat.me.0.seen) (ap (λ f. f.start.workers) floor) c.turn-answer.ensures.named

pub returns-clause-told : goal.returns-clause-told
returns-clause-told g c =
    let view = c.pass.view_is in
    let e = c.turn-answer.ensures in
    let told = g.K.Kept.told_of c.turn-answer.result.0 in
    let table = e.id ∙ ap (λ p. p.floor.table) view in
    let start = ap (λ m. m.0.start) e.view ∙ ap (λ p. p.floor.start) view in
    let worker = ap (λ p. p.worker) view in
    let commits = e.amounts.0 ∙ ap (λ (n : ℕ). n + once told.committed) (ap (λ p. p.commits) view) in
    let stale = e.amounts.1 ∙ ap (λ (n : ℕ). n + once told.stale) (ap (λ p. p.stale) view) in
    (λ i. pass_of (floor_of (table i) (start i)) (worker i) c.turn-answer.new.seat.me.0.seen (commits i) (stale i))
