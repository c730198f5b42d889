-- What turns of threads change.
use Rattle.std.specs.Prelude.{◌≡◌, ℕ, ◌+◌, ◌<◌, ◌≤◌, List, [], ◌∷◌, ◌++◌}
use Rattle.stab_journal.specs.declared.event.Event.{Event}
use Rattle.stab_journal.specs.Event.{weigh, weight_of}
use Rattle.image_run.specs.declared.turn.Run.{Run}
use Rattle.image_run.specs.Machine.{IsAt}

-- one event of weight 1, as an act or a meeting is
abbrev pub IsAct : List Event → Type 0
IsAct [] = ⊥
IsAct (e ∷ es) = (weigh e.what ≡ 1) × (es ≡ [])

-- such an event, or nothing
abbrev pub IsActAtMost : List Event → Type 0
IsActAtMost [] = Unit {0}
IsActAtMost (e ∷ es) = IsAct (e ∷ es)

-- A turn, by weights: an event of at most the quantum, as pure steps are, and then one of weight 1, as an act or a meeting is, or
-- nothing; or the one of weight 1 alone.
abbrev pub IsTurn : ℕ → List Event → Type 0
IsTurn quantum [] = ⊥
IsTurn quantum (e ∷ es) = (weigh e.what ≤ quantum) × IsActAtMost es

-- the events are those of turns, each of which began before the events weighed as much as the fuel
pub data AreTurns (fuel quantum : ℕ) : List Event → Type 0 where
  no_turn : AreTurns fuel quantum []
  one_more : (before this : List Event) → AreTurns fuel quantum before → weight_of before < fuel → IsTurn quantum this
      → AreTurns fuel quantum (before ++ this)

-- events with this property came behind the others
pub record Adds (Is : List Event → Type 0) (old new : List Event) : Type 0 where
  pub more : List Event
  pub is : Is more
  pub behind : new ≡ old ++ more

-- the machine is where its events lead, and the quantum is in its range
pub record IsRun (r : Run) : Type 0 where
  pub at : IsAt r.machine
  pub some : 1 ≤ r.quantum
  pub little : r.quantum ≤ 10000

-- events were added, from the weight a to the weight b
pub record IsMoved (a b : ℕ) (old new : Run) : Type 0 where
  pub run : IsRun new
  pub origin : new.machine.origin ≡ old.machine.origin
  pub quantum : new.quantum ≡ old.quantum
  pub more : old.machine.weight + a ≤ new.machine.weight
  pub little : new.machine.weight ≤ old.machine.weight + b
