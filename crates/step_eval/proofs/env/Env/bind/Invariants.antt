use Rattle.std.proofs.Common.{◌≡◌, ◌-◌, ◌++◌, length, replicate}
use Rattle.stab_base.specs.Datum.{unit}
use Rattle.step_eval.proofs.env.Env.bind.Given as goal

abbrev pub invariant-loop-passed : goal.invariant-loop-passed
invariant-loop-passed l = l.self-inside.slots.items ≡ l.fn.self ++ replicate (l._passed - length l.fn.self) unit
