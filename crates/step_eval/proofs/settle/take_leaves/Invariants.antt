use Rattle.std.proofs.Common.{◌≡◌, ◌-◌, ◌≤◌, length}
use Rattle.step_eval.specs.Meaning.{at_form, form_at}
use Rattle.step_eval.proofs.settle.take_leaves.Given as goal

-- the values so far are those of leaves
abbrev pub invariant-leaves : goal.invariant-leaves
invariant-leaves l = record {
  few : length l.done.items ≤ l.strict;
  same : form_at l.p (at_form l.fn.n l.from l.done.items l.values) ≡ form_at l.p (at_form l.fn.n l.from l.fn.done.items l.values);
}

abbrev pub decreases-leaves : goal.decreases-leaves
decreases-leaves l = l.strict - length l.done.items
