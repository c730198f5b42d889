use Rattle.std.proofs.Common.{◌≡◌, ap, sym, ◌∙◌, arith}
use Rattle.turn_floor.proofs.Steps.{shows_front_of}
use Rattle.turn_floor.proofs.floor.Floor.show.Goals as goal

pub store-requires : goal.store-requires
store-requires g c = let t = c.requires.holds in (
  c.requires.id ∙ ap (λ f. f.table) (sym c.self.view_is),
  omega (arith, c.self.invariant.0),
  shows_front_of _ _ _ _ _ _ t.0 _ t.1 c.requires.live.1 c.requires.live.0 t.2.0 t.2.1,
)

pub returns-clause-shown : goal.returns-clause-shown
returns-clause-shown g c = let t = c.requires.holds in (t.0, t.1, c.store.ensures.2 t.0 t.1)
