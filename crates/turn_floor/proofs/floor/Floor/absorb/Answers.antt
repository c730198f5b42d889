use Rattle.std.proofs.Common.{◌≡◌, ◌∷◌, [], ℕ, ap, sym, ◌∙◌, subst, arith}
use Rattle.turn_floor.specs.Joined.{Joined}
use Rattle.turn_floor.proofs.Joins.{joined_one, last_zero}
use Rattle.turn_floor.proofs.Seats.{joins_in}
use Rattle.turn_floor.proofs.floor.Floor.absorb.Goals as goal

pub join_seat-requires : goal.join_seat-requires
join_seat-requires g c =
    let view = c.pass.view_is in
    let is = c.pass.invariant.3 in
    let table = ap (λ f. f.table) (sym c.self.view_is) in (
      c.requires.own.0 ∙ table,
      ap (λ p. p.floor.table) view ∙ ap (λ f. f.table) c.requires.own.1 ∙ table,
      c.pass.invariant.0,
      omega (arith, c.self.invariant.0),
      joins_in _ _ _ _ _ _ _ c.requires.idle.1 (omega (arith, is.one_seat)) c.requires.idle.0 is.idle
          (is.last_is ∙ last_zero _ _ (λ one. c.requires.other (sym (ap (λ p. p.worker) view) ∙ one))),
    )

pub returns-clause-joined : goal.returns-clause-joined
returns-clause-joined g c =
    subst (λ v. Joined c.args.seat.now.me.0 v (c.args.pass ∷ [])) (sym (ap (λ m. m.0) c.join_seat.ensures.2))
    (joined_one c.args.seat.now.me.0 c.pass.inside.seat.me.0 c.args.pass c.pass.invariant.3.one_seat (sym (ap (λ p. p.seen) c.pass.view_is)))
