-- The threads up to the last one ended.
use Rattle.std.proofs.Common.{◌≡◌, ℕ, ◌≤◌, ◌-◌, true}
use Rattle.std.specs.Prelude.{IfSome}
use Rattle.language.specs.Plain.{look_in, standing}
use Rattle.language.specs.Shown.{is_done}
use Rattle.state_text.proofs.ended.all_ended.Given as goal

abbrev pub invariant-loop-t : goal.invariant-loop-t
invariant-loop-t l = (u : ℕ) → u ≤ l.last → IfSome (standing l.state.state u) (λ e. is_done (look_in l.state.program e) ≡ true)

abbrev pub decreases-loop-t : goal.decreases-loop-t
decreases-loop-t l = 4294967296 - l.last
