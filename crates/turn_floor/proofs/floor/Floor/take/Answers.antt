use Rattle.std.proofs.Common.{rules, ◌≡◌, ◌<◌, ℕ, subst, sym, ap, ◌∙◌, arith}
use Rattle.turn_floor.specs.Keeps.{Keeps, events_in}
use Rattle.turn_floor.specs.Plays.{Took}
use Rattle.turn_floor.proofs.Steps.{takes_turn}
use Rattle.turn_floor.proofs.floor.Floor.take.Goals as goal

pub compare_exchange-found-requires : goal.compare_exchange-found-requires
compare_exchange-found-requires g c = let since = c.loop.invariant in (
  since.2 ∙ c.requires.id ∙ ap (λ f. f.table) (sym c.self.view_is),
  omega (arith, c.self.invariant.0),
  takes_turn _ _ _ _ _ _ _ (subst (λ (n : ℕ). 0 < n) (ap (λ m. m.0.seats) (sym since.4)) c.requires.live),
)

pub returns-then-found-eq0-clause-took : goal.returns-then-found-eq0-clause-took
returns-then-found-eq0-clause-took g c = let since = c.loop.invariant in
    subst (λ m. Took (Keeps g.K.Kept.job_of g.K.Kept.commits_of g.K.Kept.stale_of) (events_in g.K.Kept.events_of) m c.compare_exchange-found.new.seat.me) since.4
    (c.compare_exchange-found.ensures.2.0 c.if-found-eq0.true)
