use Rattle.std.proofs.Common.{◌≡◌, ap, sym, ◌∙◌, arith}
use Rattle.atomic_table.specs.Table.{rest}
use Rattle.turn_floor.specs.Plays.{giving}
use Rattle.turn_floor.proofs.Steps.{gives_turn_of}
use Rattle.turn_floor.proofs.floor.Floor.give.Goals as goal

pub store-requires : goal.store-requires
store-requires g c = let t = c.requires.holds in let v = c.args.seat.now.me.0 in (
  c.requires.id ∙ ap (λ f. f.table) (sym c.self.view_is),
  omega (arith, c.self.invariant.0),
  gives_turn_of _ _ _ _ _ _ v t.0 (ap (λ l. (v, l)) t.1) c.requires.live.1 c.requires.live.0 t.2.0 t.2.1,
)
