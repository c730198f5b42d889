-- What workers rely on of a state that takes the calls of a counter.
use Rattle.std.specs.Prelude.{ℕ, List}
use Rattle.stab_code.specs.JobParts.{JobParts}
use Rattle.stab_journal.specs.declared.event.Event.{Event}
use Rattle.turn_trial.specs.Calls.{IsCallOf, SaysSpent}
use Rattle.turn_trial.specs.declared.counter.Call.{Call}
use Rattle.turn_trial.specs.declared.counter.Reply.{Reply}

-- every call of a worker's own that asks for few events fits, and every answer that fits says whether the history is spent
pub record TakesCalls (asks : JobParts → ℕ → Call → Type 0) (answers : JobParts → List Event → Reply → Type 0) : Type 0 where
  pub calls : (job : JobParts) (worker : ℕ) (call : Call) → IsCallOf job worker call → asks job worker call
  pub replies : (job : JobParts) (events : List Event) (reply : Reply) → answers job events reply → SaysSpent job events reply
