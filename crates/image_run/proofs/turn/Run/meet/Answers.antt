use Rattle.std.proofs.Common.{refl}
use Rattle.stab_journal.specs.declared.event.Label.TheVariants.{Comm}
use Rattle.stab_journal.specs.declared.event.What.TheVariants.{Step}
use Rattle.image_run.proofs.Added.{one_act}
use Rattle.image_run.proofs.Turning.{may_meet}
use Rattle.image_run.proofs.turn.Run.meet.Goals as goal

pub step-requires-clause-may : goal.step-requires-clause-may
step-requires-clause-may c = may_meet c.args.self.now.machine c.args.meeting c.requires.meets

pub returns-clause-added : goal.returns-clause-added
returns-clause-added c =
    one_act c.args.self.now.machine.events.items _ (Step (Comm c.args.meeting.sender c.args.meeting.receiver c.args.meeting.chan)) refl c.in_ok-step.ensures.event
