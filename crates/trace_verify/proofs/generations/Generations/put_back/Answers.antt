use Rattle.trace_verify.proofs.Counting.{count_step}
use Rattle.trace_verify.proofs.generations.Generations.put_back.Goals as goal

pub loop-step-preserved : goal.loop-step-preserved
loop-step-preserved c =
    count_step c.args.undo.0 c.loop-step.step-index c.actors.result.0.0 c.actors.result.1.0 c.args.goes.now _ c.args.self.now c.loop-step.self c.count.new.self c.count-in-loop-step.new.self c.requires c.loop-step-test.true
    c.actors.ensures.has c.loop-step.invariant c.in_ok-count.ensures.counts c.in_ok-count-2.ensures.counts
