-- The events of one worker.
use Rattle.std.specs.Prelude.{ℕ, suc, cond, List, [], ◌∷◌, ◌++◌, nat_eq}
use Rattle.stab_journal.specs.declared.event.Event.{Event}
use Rattle.stab_journal.specs.declared.event.Recorded.{Recorded}

-- an event with its number if the worker w made it, and nothing of another's
abbrev pub own_at : ℕ → ℕ → Event → List Recorded
own_at w q e = cond (nat_eq e.worker w) (record { seq = record { 0 = q }; event = e } ∷ []) []

-- of events that are numbered from q on, those of the worker w in order, each with its number
abbrev pub own_from : ℕ → ℕ → List Event → List Recorded
own_from w q [] = []
own_from w q (e ∷ es) = own_at w q e ++ own_from w (suc q) es

-- the events that the worker w made
abbrev pub own : ℕ → List Event → List Recorded
own w events = own_from w 1 events
