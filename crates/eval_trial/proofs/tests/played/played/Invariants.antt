-- The steps so far stand for the state.
use Rattle.std.proofs.Common.{◌≡◌, ◌+◌, take}
use Rattle.std.specs.Arc.{arc_value}
use Rattle.eval_trial.specs.Alone.{StandsAlone}
use Rattle.eval_trial.proofs.tests.played.played.Given as goal

abbrev pub invariant-one : goal.invariant-one
invariant-one l =
    (l.state.program ≡ arc_value l.program) × (l.next ≡ l.step-index + 1)
    × StandsAlone (arc_value l.program) (take l.step-index l.run) l.state.state
