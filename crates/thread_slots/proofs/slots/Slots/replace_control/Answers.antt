use Rattle.std.proofs.Common.{refl}
use Rattle.thread_slots.proofs.Layouts.{IsLaidOut-same, IsSound-from_layout}
use Rattle.thread_slots.proofs.slots.Slots.replace_control.Goals as goal

pub invariant_of-self : goal.invariant_of-self
invariant_of-self g c =
    IsLaidOut-same c.self.invariant _ _ _ _ _ _ c.args.t.0 _ c.replace_control.ensures.threads refl refl c.replace_control.ensures.length refl c.replace_control.ensures.capacity (λ slot. refl)

pub returns-clause-sound : goal.returns-clause-sound
returns-clause-sound g c = IsSound-from_layout _ _ _ _ _ (invariant_of-self g c)
