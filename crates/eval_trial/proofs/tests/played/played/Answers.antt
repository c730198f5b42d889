use Rattle.std.proofs.Common.{◌≡◌, [], refl, sym, ap, subst}
use Rattle.std.specs.Arc.{arc_value}
use Rattle.language.specs.Held.{Held}
use Rattle.language.specs.Standing.{nothing}
use Rattle.eval_trial.specs.Alone.{StandsAlone}
use Rattle.eval_trial.proofs.tests.played.played.Goals as goal

-- no steps stand for the start
pub one-init : goal.one-init
one-init c = (
  ap (λ (h : Held). h.program) c.in_ok-state.ensures,
  refl,
  subst (λ (h : Held). StandsAlone (arc_value c.args.program.now) [] h.state) (sym c.in_ok-state.ensures) nothing,
)
