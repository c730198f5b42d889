use Rattle.std.proofs.Common.{◌≡◌, sym, subst, ◌∙◌, arith}
use Rattle.image_run.specs.Turns.{AreTurns, no_turn}
use Rattle.image_run.proofs.Turning.{quiet_back, quiet_for}
use Rattle.image_run.proofs.going.go_on.Goals as goal

pub play-requires-clause-turns : goal.play-requires-clause-turns
play-requires-clause-turns c = subst (AreTurns c.args.fuel c.in_ok-run.run'.quantum) (sym c.in_ok-run.ensures.none) no_turn

pub returns-clause-turns : goal.returns-clause-turns
returns-clause-turns c =
    subst (λ k. AreTurns c.args.fuel k c.end.result.events.items) c.in_ok-run.ensures.quantum (rw c.end.ensures.events c.in_ok-spent.ensures.turns)

pub returns-clause-spent : goal.returns-clause-spent
returns-clause-spent c = λ on.
    let m = c.play.new.self.machine in
    let at = c.in_ok-spent.ensures.run.at in
    let is = c.in_ok-spent.ensures.origin ∙ c.in_ok-run.ensures.origin in
    let spent = c.in_ok-spent.ensures.spent (sym c.end.ensures.spent ∙ on) in
    (rw c.end.ensures.events (omega (arith, spent.0, at.counted.weight)), λ quiet. spent.1 (quiet_back m c.args.origin at is c.end.result.state c.end.ensures.state quiet))

pub returns-clause-quiet : goal.returns-clause-quiet
returns-clause-quiet c = λ off.
    quiet_for c.play.new.self.machine c.args.origin c.in_ok-spent.ensures.run.at (c.in_ok-spent.ensures.origin ∙ c.in_ok-run.ensures.origin) c.end.result.state c.end.ensures.state
    (c.in_ok-spent.ensures.quiet (sym c.end.ensures.spent ∙ off))
