-- The steps that are left lead from the state to where all of them lead.
use Rattle.std.proofs.Common.{◌≡◌, drop}
use Rattle.std.specs.Prelude.{Some}
use Rattle.language.specs.Plain.{effect_of}
use Rattle.language.specs.Steps.{after_steps}
use Rattle.trace_verify.proofs.surviving.play_all.Given as goal

abbrev pub invariant-loop-step : goal.invariant-loop-step
invariant-loop-step l =
    (l.state.program ≡ l.initial.state.program)
    × (after_steps (effect_of l.initial.state.program) (Some l.state.state) (drop l.step-index l.steps) ≡ after_steps (effect_of l.initial.state.program) (Some l.initial.state.state) l.steps)
