-- Which threads are live, and where they stand.
use Rattle.std.specs.Prelude.{◌≡◌, ℕ, Option, IfSome, option_map}
use Rattle.std.specs.Ordering.{nat_cmp}
use Rattle.std.specs.FinMap as map
use Rattle.std.specs.FinMap.{FinMap}
use Rattle.thread_slots.specs.Slot.{Slot}
use Rattle.language.specs.Steps.{State}

module _ {C E : Type 0} (expr : C → E) where
  -- what the control of a thread stands for, where the thread is live
  abbrev pub stands : FinMap nat_cmp (Slot C) → ℕ → Option E
  stands threads t = option_map (λ (s : Slot C). expr s.control) (map.get threads t)

  -- the live threads are those of the state, and the control of each stands for its expression
  abbrev pub AreThreads : FinMap nat_cmp (Slot C) → State E → Type 0
  AreThreads threads s = (t : ℕ) → stands threads t ≡ map.get s.threads t

-- the control of each live thread has the property
abbrev pub AllControls : {C : Type 0} → (C → Type 0) → FinMap nat_cmp (Slot C) → Type 0
AllControls P threads = (t : ℕ) → IfSome (map.get threads t) (λ s. P s.control)
