use Rattle.step_eval.specs.ControlView.{view_of}
use Rattle.step_eval.specs.Progress.{Advances}
use Rattle.step_eval.proofs.machine.Running.run.Given as goal

abbrev pub invariant-loop-made : goal.invariant-loop-made
invariant-loop-made l = Advances l.p (view_of l.fn.self) l.made (view_of l.self)
