-- So many of the steps so far print.
use Rattle.std.proofs.Common.{◌≡◌, ◌≤◌, take, count_by}
use Rattle.stab_journal.specs.Due.{is_print}
use Rattle.trace_verify.proofs.parts.prints_among.Given as goal

abbrev pub invariant-loop-step : goal.invariant-loop-step
invariant-loop-step l = (l.prints ≤ l.step-index) × (l.prints ≡ count_by (λ n. is_print n.label) (take l.step-index l.steps))
