-- The ranges of the numbers in an event, and what an event weighs.
use Rattle.std.specs.Prelude.{ℕ, suc, ◌<◌, ◌≤◌, List, [], ◌∷◌, Option, Some, None, FitsSigned}
use Rattle.std.specs.Int.{w64}
use Rattle.std.specs.List.{sum_by}
use Rattle.stab_journal.specs.declared.event.Label.{Label}
use Rattle.stab_journal.specs.declared.event.Label.TheVariants.{Local, Spawn, NewChan, Comm, NewRef, Get, Set, Enter, Cut, Print, Probe, Refuse, Pin, Attempt}
use Rattle.stab_journal.specs.declared.event.What.{What}
use Rattle.stab_journal.specs.declared.event.What.TheVariants.{Step, Undo, Release}
use Rattle.stab_journal.specs.declared.event.Event.{Event}

-- workers are numbered from 1 to 64
abbrev pub IsWorker : ℕ → Type 0
IsWorker n = (1 ≤ n) × (n ≤ 64)

-- threads, channels and references are numbered from 1 to 4,000,000,000
abbrev pub IsName : ℕ → Type 0
IsName n = (1 ≤ n) × (n ≤ 4000000000)

-- how many pure steps a step stands for, and how many values were released: from 1 to 4,294,967,295
abbrev pub IsCount : ℕ → Type 0
IsCount n = (1 ≤ n) × (n ≤ 4294967295)

-- a generation that is answered, from 0 to 4,294,967,295
abbrev pub IsGeneration : ℕ → Type 0
IsGeneration n = n ≤ 4294967295

-- the number of an event that is before the event q
abbrev pub IsBefore : ℕ → ℕ → Type 0
IsBefore q m = (1 ≤ m) × (m < q)

-- each number of a step is in its range
abbrev pub IsLabel : Label → Type 0
IsLabel (Local t n) = IsName t.0 × IsCount n
IsLabel (Spawn t u) = IsName t.0 × IsName u.0
IsLabel (NewChan t c) = IsName t.0 × IsName c.0
IsLabel (Comm s r c) = IsName s.0 × IsName r.0 × IsName c.0
IsLabel (NewRef t r) = IsName t.0 × IsName r.0
IsLabel (Get t r) = IsName t.0 × IsName r.0
IsLabel (Set t r) = IsName t.0 × IsName r.0
IsLabel (Enter t) = IsName t.0
IsLabel (Cut t) = IsName t.0
IsLabel (Print t) = IsName t.0
IsLabel (Probe t i) = IsName t.0 × FitsSigned w64 i
IsLabel (Refuse t) = IsName t.0
IsLabel (Pin t) = IsName t.0
IsLabel (Attempt t g) = IsName t.0 × IsGeneration g

-- what may happen at the event q: the mark of an undo is before it
abbrev pub IsWhat : ℕ → What → Type 0
IsWhat q (Step label) = IsLabel label
IsWhat q (Undo t m) = IsName t.0 × IsBefore q m.0
IsWhat q (Release k) = IsCount k

-- what may be the event q
pub record IsEvent (q : ℕ) (e : Event) : Type 0 where
  pub worker : IsWorker e.worker
  pub what : IsWhat q e.what

-- what may be the events from the number q on
abbrev pub AreEvents : ℕ → List Event → Type 0
AreEvents q [] = Unit {0}
AreEvents q (e ∷ es) = IsEvent q e × AreEvents (suc q) es

-- the label of a step
abbrev pub label_of : What → Option Label
label_of (Step label) = Some label
label_of _ = None

-- a step of n pure steps weighs n, and everything else 1
abbrev pub weigh : What → ℕ
weigh (Step (Local t n)) = n
weigh _ = 1

-- what a list of events weighs
abbrev pub weight_of : List Event → ℕ
weight_of = sum_by (λ (e : Event). weigh e.what)
