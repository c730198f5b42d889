use Rattle.step_eval.proofs.machine.Running.step.Goals as goal

pub returns : goal.returns
returns c = c.cap.ensures c.args.p.now _ c.in_ok-turn.ensures
