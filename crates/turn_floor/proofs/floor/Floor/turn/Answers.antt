use Rattle.std.proofs.Common.{◌≡◌, ◌∷◌, [], List, ℕ, ap, sym, refl, ◌∙◌, subst, ◌<◌, length}
use mathlib.Core.List.{IsPrefix}
use Rattle.stab_journal.specs.Own.{own}
use Rattle.stab_journal.specs.declared.event.Event.{Event}
use Rattle.turn_floor.specs.Keeps.{Keeps, events_in}
use Rattle.turn_floor.specs.Plays.{giving, showing}
use Rattle.turn_floor.specs.Served.{Adds, AreOf, Tells}
use Rattle.turn_floor.proofs.Histories.{same_slot}
use Rattle.turn_floor.proofs.Turning.{grown, still_named, turned}
use Rattle.turn_floor.proofs.floor.Floor.turn.Goals as goal

pub serve-answer-requires-clause-holds : goal.serve-answer-requires-clause-holds
serve-answer-requires-clause-holds g c =
    let t = c.take.ensures.took in (
      t.0,
      ap (λ m. m.1) t.1 ∙ ap (λ l. (0, t.0) ∷ l) c.requires.live.0,
      (
        subst (λ j. g.K.Kept.asks j c.args.worker c.args.ask) (sym t.2.keeps.job) c.requires.fits,
        subst (λ st. Keeps g.K.Kept.job_of g.K.Kept.commits_of g.K.Kept.stale_of st t.0) (sym (ap (λ m. m.0.start) t.1)) t.2.keeps,
      ),
    )

pub show-requires-clause-live : goal.show-requires-clause-live
show-requires-clause-live g c =
    let t = c.take.ensures.took in
    let now = c.serve-answer.ensures.view ∙ ap (λ m. m.0) t.1 in (
      ap (λ v. v.holds) now,
      subst (λ (n : ℕ). 0 < n) (ap (λ v. v.seats) (sym now)) c.requires.live.1,
    )

pub show-requires-clause-holds : goal.show-requires-clause-holds
show-requires-clause-holds g c =
    let t = c.take.ensures.took in
    let u = c.serve-answer.ensures.served in
    let h = u.0 in
    let k = u.2.0 in
    let w = u.2.2 in
    let same : h ≡ t.0 = same_slot h t.0 c.take.new.seat.me.1 u.1 (ap (λ m. m.1) t.1 ∙ ap (λ l. (0, t.0) ∷ l) c.requires.live.0) in
    let now = c.serve-answer.ensures.view ∙ ap (λ m. m.0) t.1 in
    let worker : c.args.worker ≡ c.serve-answer.new.seat.me.0.worker = sym c.requires.worker.1 ∙ ap (λ v. v.worker) (sym now) in
    let seen : g.K.Kept.events_of h.state ≡ c.serve-answer.new.seat.me.0.seen = ap (events_in g.K.Kept.events_of) same ∙ ap (λ v. v.seen) (sym now) in
    (k, u.2.1, (w.5, subst (λ (z : ℕ × List Event). Adds z.0 z.1 (g.K.Kept.events_of k.state)) (λ i. (worker i, seen i)) w.2))

pub give-requires-clause-live : goal.give-requires-clause-live
give-requires-clause-live g c =
    let t = c.take.ensures.took in
    let now = c.serve-answer.ensures.view ∙ ap (λ m. m.0) t.1 in
    let then = ap (λ m. m.0) c.show.ensures.shown.2 in (
      ap (λ v. v.holds) then,
      subst (λ (n : ℕ). 0 < n) (ap (λ v. v.seats) (sym now) ∙ ap (λ v. v.seats) (sym then)) c.requires.live.1,
    )

pub give-requires-clause-holds : goal.give-requires-clause-holds
give-requires-clause-holds g c =
    let t = c.take.ensures.took in
    let u = c.serve-answer.ensures.served in
    let k = u.2.0 in
    let w = u.2.2 in
    let s = c.show.ensures.shown in
    let same : s.0 ≡ k = same_slot s.0 k c.serve-answer.new.seat.me.1 s.1 u.2.1 in
    let start = ap (λ v. v.start) (sym c.serve-answer.ensures.view) ∙ ap (λ m. m.0.start) (sym s.2) in (
      k,
      ap (λ m. m.1) s.2 ∙ u.2.1,
      (
        subst (λ st. Keeps g.K.Kept.job_of g.K.Kept.commits_of g.K.Kept.stale_of st k) start w.1,
        ap (events_in g.K.Kept.events_of) (sym same) ∙ ap (λ m. m.0.seen) (sym s.2),
      ),
    )

pub returns : goal.returns
returns g c =
    let K = g.K.Kept in
    let t = c.take.ensures.took in
    let u = c.serve-answer.ensures.served in
    let h = u.0 in
    let k = u.2.0 in
    let w = u.2.2 in
    let s = c.show.ensures.shown in
    let same : h ≡ t.0 = same_slot h t.0 c.take.new.seat.me.1 u.1 (ap (λ m. m.1) t.1 ∙ ap (λ l. (0, t.0) ∷ l) c.requires.live.0) in
    let then = turned (Keeps K.job_of K.commits_of K.stale_of) (events_in K.events_of) c.args.seat.now.me c.take.new.seat.me c.serve-answer.new.seat.me c.show.new.seat.me c.give.new.seat.me k s.0 t c.serve-answer.ensures.view u.2.1 s.1 s.2 c.give.ensures.given in
    let seen = ap (λ m. m.0.seen) then in
    let job = ap (λ m. m.0.start.job) t.1 in
    let adds = subst (Adds c.args.worker (K.events_of h.state)) (sym seen) w.2 in
    let tells = subst (Tells (K.told_of c.serve-answer.result.0) (K.events_of h.state)) (sym seen) w.3 in
    let found-own = ap (own c.args.worker) (ap (events_in K.events_of) same) ∙ sym (t.2.own_is ∙ ap (λ (n : ℕ). own n (K.events_of t.0.state)) c.requires.worker.1) in
    let found-named = subst (AreOf c.args.seat.now.me.0.start.workers) (ap (events_in K.events_of) (sym same)) t.2.named in
    record {
      id = c.give.ensures.id ∙ c.show.ensures.id ∙ c.serve-answer.ensures.id ∙ c.take.ensures.id;
      view = then ∙ ap (λ (l : List Event). (giving (showing c.args.seat.now.me.0 l), [])) (sym seen);
      served = (
        h.state,
        k.state,
        w.0,
        record {
          job_before = ap (λ z. K.job_of z.state) same ∙ t.2.keeps.job;
          job_after = w.1.job ∙ job;
          begins = subst (λ z. IsPrefix c.args.seat.now.me.0.seen (K.events_of z.state)) (sym same) t.2.seen_is;
          adds = adds;
          tells = tells;
          ends = sym seen;
        },
      );
      fits = subst (λ l. K.answers c.args.seat.now.me.0.start.job l c.serve-answer.result.0) (sym seen) (subst (λ j. K.answers j (K.events_of k.state) c.serve-answer.result.0) job w.4);
      own = grown c.args.worker (K.told_of c.serve-answer.result.0) _ _ _ found-own adds tells;
      named = still_named c.args.worker _ _ _ c.requires.worker.0.0 c.requires.worker.2 adds found-named;
      len = w.5 ∙ ap length (sym seen);
      amounts = c.serve-answer.ensures.amounts;
      parts = c.serve-answer.ensures.parts;
    }
