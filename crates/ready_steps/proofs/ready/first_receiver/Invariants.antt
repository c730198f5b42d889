-- The threads up to the last one receive nothing on the channel.
use Rattle.std.proofs.Common.{◌≡◌, ℕ, ◌≤◌, ◌-◌}
use Rattle.std.specs.Prelude.{false}
use Rattle.ready_steps.specs.Ready.{look_of, receives_at}
use Rattle.ready_steps.proofs.ready.first_receiver.Given as goal

abbrev pub invariant-loop-t : goal.invariant-loop-t
invariant-loop-t l = (u : ℕ) → u ≤ l.last → receives_at l.c.0 (look_of l.state.program l.state.state u) ≡ false

abbrev pub decreases-loop-t : goal.decreases-loop-t
decreases-loop-t l = 4294967296 - l.last
