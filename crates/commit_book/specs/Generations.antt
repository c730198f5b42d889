-- How often each thread was put back.
use Rattle.std.specs.Prelude.{◌≡◌, ℕ, List, IfSome}
use Rattle.std.specs.Ordering.{nat_cmp}
use Rattle.std.specs.FinMap as map
use Rattle.std.specs.FinMap.{FinMap}
use Rattle.stab_journal.specs.declared.event.Event.{Event}
use Rattle.stab_journal.specs.Generation.{generation}
use Rattle.thread_slots.specs.Slot.{Slot}

-- the generation of each live thread is how many of the events took a step away in which it acts
abbrev pub AreGenerations : {C : Type 0} → FinMap nat_cmp (Slot C) → List Event → Type 0
AreGenerations threads events = (t : ℕ) → IfSome (map.get threads t) (λ s. s.generation ≡ generation t events)
