use Rattle.std.proofs.Common.{refl, arith}
use Rattle.stab_journal.specs.declared.event.What.TheVariants.{Step}
use Rattle.image_run.proofs.Added.{one_act}
use Rattle.image_run.proofs.turn.Run.act.Goals as goal

pub returns-clause-moved : goal.returns-clause-moved
returns-clause-moved c = record {
  run = record { at = c.in_ok-step.ensures.at; some = c.requires.run.some; little = c.requires.run.little };
  origin = c.in_ok-step.ensures.origin;
  quantum = refl;
  more = omega (arith, c.in_ok-step.ensures.weight, c.in-Some.ensures.one);
  little = omega (arith, c.in_ok-step.ensures.weight, c.in-Some.ensures.one);
}

pub returns-clause-added : goal.returns-clause-added
returns-clause-added c = one_act c.args.self.now.machine.events.items _ (Step c.in-Some.label) c.in-Some.ensures.one c.in_ok-step.ensures.event
