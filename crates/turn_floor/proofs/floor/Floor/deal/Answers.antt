use Rattle.std.proofs.Common.{◌≡◌, ℕ, ◌<◌, ◌+◌, [], ap, sym, ◌∙◌, subst, arith}
use Rattle.turn_floor.specs.Parts.{IsPass}
use Rattle.turn_floor.specs.Plays.{dealer, dealt}
use Rattle.turn_floor.proofs.Dealing.{dealer_is, next_pass}
use Rattle.turn_floor.proofs.Seats.{splits_off}
use Rattle.turn_floor.proofs.floor.Floor.deal.Goals as goal

pub split_seat-next-requires : goal.split_seat-next-requires
split_seat-next-requires g c =
    let e = ap (λ m. m.0) c.requires.view in
    let seats = ap (λ v. v.seats) e in
    let last = ap (λ v. v.last) e in
    let workers = ap (λ v. v.start.workers) e in (
      c.requires.id ∙ ap (λ f. f.table) (sym c.self.view_is),
      omega (arith, c.self.invariant.0),
      splits_off _ _ _ _ _ (omega (arith, seats)) (omega (arith, last, c.requires.number.0)) (omega (arith, last, workers, c.requires.number.0, c.requires.number.1)),
    )

pub begin-requires-clause-seat : goal.begin-requires-clause-seat
begin-requires-clause-seat g c =
    let e = ap (λ m. m.0) c.requires.view in
    let new = c.split_seat-next.ensures.4 in
    let few = c.self.invariant.2.1 in
    let workers = ap (λ f. f.start.workers) c.self.view_is in (
      ap (λ m. m.1) new,
      subst (λ v. IsPass v c.args.number c.args.len) (sym (ap (λ m. m.0) new ∙ ap dealt e)) (next_pass _ _ _ c.requires.number.0 c.requires.number.1 (omega (arith, few, workers)) c.requires.len),
    )
