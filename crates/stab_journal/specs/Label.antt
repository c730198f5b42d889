-- Who acts in a step, and what it touches and writes.
use Rattle.std.specs.Prelude.{ℕ, List, [], ◌∷◌, Option, Some, None}
use Rattle.stab_journal.specs.declared.event.Label.{Label}
use Rattle.stab_journal.specs.declared.event.Label.TheVariants.{Local, Spawn, NewChan, Comm, NewRef, Get, Set, Enter, Cut, Print, Probe, Refuse, Pin, Attempt}

-- the threads that act in a step: its thread, or the sender and the receiver
abbrev pub actors : Label → List ℕ
actors (Local t n) = t.0 ∷ []
actors (Spawn t u) = t.0 ∷ []
actors (NewChan t c) = t.0 ∷ []
actors (Comm s r c) = s.0 ∷ r.0 ∷ []
actors (NewRef t r) = t.0 ∷ []
actors (Get t r) = t.0 ∷ []
actors (Set t r) = t.0 ∷ []
actors (Enter t) = t.0 ∷ []
actors (Cut t) = t.0 ∷ []
actors (Print t) = t.0 ∷ []
actors (Probe t i) = t.0 ∷ []
actors (Refuse t) = t.0 ∷ []
actors (Pin t) = t.0 ∷ []
actors (Attempt t g) = t.0 ∷ []

-- the thread that a step spawns
abbrev pub spawned : Label → Option ℕ
spawned (Spawn t u) = Some u.0
spawned _ = None

-- the threads that a step touches: its actors, and the one that it spawns
abbrev pub touched : Label → List ℕ
touched (Spawn t u) = t.0 ∷ u.0 ∷ []
touched label = actors label

-- the reference that a step writes: the one that it makes or sets
abbrev pub written : Label → Option ℕ
written (NewRef t r) = Some r.0
written (Set t r) = Some r.0
written _ = None
