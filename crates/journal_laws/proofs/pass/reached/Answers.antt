use Rattle.std.proofs.Common.{refl}
use Rattle.journal_laws.specs.Pass.{lost_in}
use Rattle.journal_laws.proofs.Passing.{pass_on}
use Rattle.journal_laws.proofs.pass.reached.Goals as goal

pub loop-step-preserved : goal.loop-step-preserved
loop-step-preserved c =
    pass_on c.args.m.0 c.loop-step.step-index c.args.run.now _ _ (lost_in c.loop-step.threads.keys c.loop-step.references.keys) (lost_in c.touch.new.threads.keys c.write.new.references.keys) c.is_lost-lost.result _ _
    c.loop-step-test.true refl c.is_lost-lost.ensures c.in_ok-touch.ensures c.in_ok-write.ensures c.in_ok-note.ensures c.loop-step.invariant
