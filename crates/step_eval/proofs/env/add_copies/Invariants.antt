use Rattle.std.proofs.Common.{◌≡◌, ◌++◌, take}
use Rattle.step_eval.proofs.env.add_copies.Given as goal

-- those so far
abbrev pub invariant-loop-v : goal.invariant-loop-v
invariant-loop-v l = l.all.items ≡ l.fn.all.items ++ take l.v-index l.values
