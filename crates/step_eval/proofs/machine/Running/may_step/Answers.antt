use Rattle.std.proofs.Common.{rules}
use Rattle.step_eval.proofs.Stepping.{rests}
use Rattle.step_eval.proofs.machine.Running.may_step.Goals as goal

pub returns-in_default : goal.returns-in_default
returns-in_default c = record {
  more = search rules;
  none = λ p fits found. rests p c.args.self.now c.in_default.not-Form fits found;
}
