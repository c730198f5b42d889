-- What one call adds to a history, and what it tells of that.
use Rattle.std.specs.Prelude.{◌≡◌, ℕ, zero, suc, ◌+◌, ◌-◌, ◌<◌, ◌≤◌, List, [], ◌∷◌, ◌++◌, length, take, drop}
use Rattle.std.specs.List.{AllByRecursion}
use Rattle.stab_journal.specs.declared.event.Event.{Event}
use Rattle.stab_journal.specs.declared.event.Recorded.{Recorded}
use Rattle.turn_floor.specs.declared.kept.Told.{Told}

-- the history before, and then events of the worker
abbrev pub Adds : ℕ → List Event → List Event → Type 0
Adds worker before after = (new : List Event) × (after ≡ before ++ new) × AllByRecursion (λ (e : Event). e.worker ≡ worker) new

-- the call added as many events as it tells, from the number on that it tells; where it tells of none, the number says nothing
abbrev pub Tells : Told → List Event → List Event → Type 0
Tells t before after = (length after ≡ length before + t.count) × (0 < t.count → t.first.0 ≡ length before + 1)

-- each event with its number, from the number q on
abbrev pub recorded : ℕ → List Event → List Recorded
recorded q [] = []
recorded q (e ∷ es) = record { seq = record { 0 = q }; event = e } ∷ recorded (suc q) es

-- of a history, the events that an answer tells of, with their numbers
abbrev pub told_events : Told → List Event → List Recorded
told_events t events = take t.count (drop (t.first.0 - 1) (recorded 1 events))

-- each event carries a number from 1 to n
abbrev pub AreOf : ℕ → List Event → Type 0
AreOf n events = AllByRecursion (λ (e : Event). (1 ≤ e.worker) × (e.worker ≤ n)) events

-- the events at first, and then such that each carry a number from 1 to n
abbrev pub AddsOf : ℕ → List Event → List Event → Type 0
AddsOf n first events = (new : List Event) × (events ≡ first ++ new) × AreOf n new

-- the numbers a, a + 1, .., of which there are n
abbrev pub from_to : ℕ → ℕ → List ℕ
from_to a zero = []
from_to a (suc n) = a ∷ from_to (suc a) n
