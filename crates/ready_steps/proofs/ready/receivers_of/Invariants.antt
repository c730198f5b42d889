-- The channels on which the threads up to the last one receive are there.
use Rattle.std.proofs.Common.{◌≡◌, ℕ, ◌≤◌, ◌-◌}
use Rattle.std.specs.Prelude.{true, is_some}
use Rattle.std.specs.BTreeMap.{get}
use Rattle.std.specs.Ordering.{nat_cmp}
use Rattle.ready_steps.specs.Ready.{look_of, receives_at}
use Rattle.ready_steps.proofs.ready.receivers_of.Given as goal

abbrev pub invariant-loop-t : goal.invariant-loop-t
invariant-loop-t l = (u : ℕ) → u ≤ l.last → (c : ℕ) → receives_at c (look_of l.state.program l.state.state u) ≡ true → is_some (get nat_cmp l.receivers c) ≡ true

abbrev pub decreases-loop-t : goal.decreases-loop-t
decreases-loop-t l = 4294967296 - l.last
