use Rattle.std.proofs.Common.{subst}
use Rattle.thread_slots.specs.Slot.{IsSound}
use Rattle.thread_slots.proofs.Layouts.{IsSound-from_layout}
use Rattle.thread_slots.proofs.slots.Slots.front.Goals as goal

pub returns-clause-sound : goal.returns-clause-sound
returns-clause-sound g c = subst (λ s. IsSound s) c.self.view_is (IsSound-from_layout c.self.inside.entries.items _ _ _ _ c.self.invariant)
