use Rattle.std.proofs.Common.{◌≡◌, ◌⊎◌, ◌+◌, ◌≤◌, length}
use Rattle.scope_check.specs.Stretches.{IsStretchMade}
use Rattle.scope_check.proofs.plan.Plan.stretch.Given as goal

abbrev pub invariant-loop-i : goal.invariant-loop-i
invariant-loop-i l = record {
  heads : IsStretchMade l.self.bytes.now l.self.functions.now l.self.forms.now l.i l.initial.progress l.progress;
  seen : l.progress.seen.items ≡ l.initial.progress.seen.items;
  from : length l.initial.progress.heads.items ≤ l.i;
  to : (l.i ≤ l.at + 1) ⊎ (l.i ≡ length l.initial.progress.heads.items);
}
