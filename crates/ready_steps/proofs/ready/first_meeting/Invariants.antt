-- Where the threads up to the last one send, nobody receives.
use Rattle.std.proofs.Common.{◌≡◌, ℕ, ◌≤◌, ◌-◌}
use Rattle.std.specs.Prelude.{true, false}
use Rattle.ready_steps.specs.Ready.{look_of, receives_at, sends_at}
use Rattle.ready_steps.proofs.ready.first_meeting.Given as goal

abbrev pub invariant-loop-t : goal.invariant-loop-t
invariant-loop-t l = (u : ℕ) → u ≤ l.last → (v c : ℕ) → sends_at c (look_of l.state.program l.state.state u) ≡ true → receives_at c (look_of l.state.program l.state.state v) ≡ false

abbrev pub decreases-loop-t : goal.decreases-loop-t
decreases-loop-t l = 4294967296 - l.last
