use Rattle.std.proofs.Common.{◌∙◌}
use Rattle.trace_verify.proofs.Leading.{play_on, play_stuck}
use Rattle.trace_verify.proofs.surviving.play_all.Goals as goal

pub unreachable-requires : goal.unreachable-requires
unreachable-requires c =
    play_stuck c.args.state.now.program c.loop-step.state.program c.loop-step.state.state c.args.steps.now c.loop-step.step-index _ _ c.loop-step.invariant.0 c.loop-step-test.true
    (rw c.in-Err-NoStep.field-0-is at c.in-Err-NoStep.ensures).0 c.loop-step.invariant.1 c.requires

pub loop-step-preserved : goal.loop-step-preserved
loop-step-preserved c = (
  c.in-Ok.ensures.1 ∙ c.loop-step.invariant.0,
  play_on c.args.state.now.program c.loop-step.state.program c.loop-step.state.state c.play.new.self.state c.args.steps.now c.loop-step.step-index _ _ c.loop-step.invariant.0 c.loop-step-test.true
      c.in-Ok.ensures.0 c.loop-step.invariant.1,
)
