use Rattle.std.proofs.Common.{◌≡◌, List, ap, sym, ◌∙◌, subst}
use Rattle.std.specs.List.{AllByRecursion}
use mathlib.Core.List.{IsPrefix}
use mathlib.Core.Option.{some-injective}
use Rattle.stab_journal.specs.Own.{own}
use Rattle.stab_journal.specs.declared.event.Event.{Event}
use Rattle.turn_floor.specs.Keeps.{Keeps, events_in}
use Rattle.turn_floor.specs.Parts.{FloorParts}
use Rattle.turn_floor.specs.Served.{AreOf}
use Rattle.turn_floor.proofs.Seats.{ends}
use Rattle.turn_floor.proofs.floor.Floor.end.Goals as goal

pub returns : goal.returns
returns g c =
    let K = g.K.Kept in
    let e = c.requires.every in
    let fin = ends _ _ _ _ _ _ _ e.0 e.1 e.2 c.close_with-closed.ensures.values.2 in
    let same : fin.0 ≡ c.take-held.result = some-injective _ _ (sym fin.1 ∙ c.take-held.ensures.value) in
    let events = ap (events_in K.events_of) same in
    record {
      keeps = subst (λ s. Keeps K.job_of K.commits_of K.stale_of s c.take-held.result) (ap (λ f. f.start) c.self.view_is) (subst (Keeps K.job_of K.commits_of K.stale_of _) same fin.2);
      begins = subst (λ (z : FloorParts × List Event). IsPrefix z.0.start.events z.1) (λ i. (c.self.view_is i, events i)) fin.7;
      seen = (subst (IsPrefix c.args.seat.me.0.seen) events fin.3, subst (λ l. AllByRecursion (λ old. IsPrefix old l) c.args.seat.me.0.olds) events fin.4);
      own = fin.5 ∙ ap (own c.args.seat.me.0.worker) events;
      named = subst (λ (z : FloorParts × List Event). AreOf z.0.start.workers z.1) (λ i. (c.self.view_is i, events i)) fin.6;
    }
