use Rattle.thread_slots.proofs.Layouts.{IsLaidOut-new, IsSound-from_layout}
use Rattle.thread_slots.proofs.slots.Slots.new.Goals as goal

pub invariant_of-result : goal.invariant_of-result
invariant_of-result g c = IsLaidOut-new c.new.result.items c.new-2.result c.none.result _ c.new.ensures.items c.new-2.ensures.ready c.new-2.ensures.leased c.new-2.ensures.places c.none.ensures

pub returns-clause-sound : goal.returns-clause-sound
returns-clause-sound g c = IsSound-from_layout c.new.result.items _ _ _ _ (invariant_of-result g c)
