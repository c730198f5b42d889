-- The threads up to the last one rest.
use Rattle.std.proofs.Common.{◌≡◌, ℕ, ◌≤◌, ◌-◌}
use Rattle.std.specs.Prelude.{true}
use Rattle.ready_steps.specs.Ready.{look_of, rests_at}
use Rattle.ready_steps.proofs.ready.first_alone.Given as goal

abbrev pub invariant-loop-t : goal.invariant-loop-t
invariant-loop-t l = (u : ℕ) → u ≤ l.last → rests_at (look_of l.state.program l.state.state u) ≡ true

abbrev pub decreases-loop-t : goal.decreases-loop-t
decreases-loop-t l = 4294967296 - l.last
