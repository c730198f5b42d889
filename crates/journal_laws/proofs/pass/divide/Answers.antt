use Rattle.std.proofs.Common.{refl}
use Rattle.stab_journal.specs.Names.{has}
use Rattle.stab_journal.specs.Reached.{reached}
use Rattle.journal_laws.specs.Pass.{lost_in}
use Rattle.journal_laws.proofs.Dividing.{divide_on, divided_at_first}
use Rattle.journal_laws.proofs.pass.divide.Goals as goal

pub loop-step-init : goal.loop-step-init
loop-step-init c = divided_at_first c.args.m.0 c.args.run.now _ _ _ _ c.requires c.new-stays.ensures.items c.new-goes.ensures.items c.new-threads.ensures.empty c.new-references.ensures.empty

pub loop-step-preserved : goal.loop-step-preserved
loop-step-preserved c =
    divide_on c.args.m.0 c.loop-step.step-index (has (reached c.args.run.now c.args.m.0)) c.args.run.now _ _
    (lost_in c.loop-step.threads.keys c.loop-step.references.keys) (lost_in c.touch.new.threads.keys c.write.new.references.keys)
    c.is_lost-lost.result _ _ _ _ c.loop-step-test.true refl c.is_lost-lost.ensures c.in_ok-touch.ensures c.in_ok-write.ensures
    c.in_ok-put.ensures c.in_ok-put-2.ensures c.loop-step.invariant
