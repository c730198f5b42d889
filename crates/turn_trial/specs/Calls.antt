-- Which calls of a counter fit, and what its replies say.
use Rattle.std.specs.Prelude.{◌≡◌, ◌≤◌, ◌↔◌, ℕ, List, IsTrue}
use Rattle.stab_code.specs.JobParts.{JobParts}
use Rattle.stab_journal.specs.Event.{weight_of}
use Rattle.stab_journal.specs.declared.event.Event.{Event}
use Rattle.turn_trial.specs.declared.counter.Call.{Call}
use Rattle.turn_trial.specs.declared.counter.Reply.{Reply}

-- a call names the worker that makes it, and asks for no more events than the job's quantum
abbrev pub IsCallOf : JobParts → ℕ → Call → Type 0
IsCallOf job worker call = (call.worker ≡ worker) × (call.events ≤ job.quantum)

-- a history weighs as much as the job's fuel, or more
abbrev pub IsSpent : JobParts → List Event → Type 0
IsSpent job events = job.fuel ≤ weight_of events

-- a reply says exactly whether the history is spent
abbrev pub SaysSpent : JobParts → List Event → Reply → Type 0
SaysSpent job events reply = IsTrue reply.spent ↔ IsSpent job events
