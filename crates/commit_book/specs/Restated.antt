-- What is kept once one thread has another state.
use Rattle.std.specs.Prelude.{◌≡◌, ℕ, List, ◌++◌}
use Rattle.linked_lists.specs.Lists.{without}
use Rattle.thread_slots.specs.declared.state.State.{State}
use Rattle.thread_slots.specs.Slot.{Slot, changed, IsSound}
use Rattle.step_eval.specs.ControlView.{ControlView}
use Rattle.commit_book.specs.declared.parts.Parts.{Parts}
use Rattle.commit_book.specs.Leases.{LeaseView}

-- the thread t has this state and stands in the queue no more, these come to its tail, and nothing else changes
pub record IsRestated (old new : Parts) (t : ℕ) (state : State) (tail : List ℕ) : Type 0 where
  pub threads : new.slots.threads ≡ changed old.slots.threads t (λ slot. record slot { state = state })
  pub queue : new.slots.queue ≡ without t old.slots.queue ++ tail
  pub next : new.slots.next ≡ old.slots.next
  pub sound : IsSound new.slots
  pub rest : new ≡ record old { slots = new.slots }

-- the lease is of the thread t as it is, and the control equals its own
pub record IsHanded (worker t : ℕ) (l : LeaseView) (c : ControlView) (slot : Slot ControlView) : Type 0 where
  pub lease : l ≡ record { worker = worker; thread = t; generation = slot.generation }
  pub control : c ≡ slot.control
