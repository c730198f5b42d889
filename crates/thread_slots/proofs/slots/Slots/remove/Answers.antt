use Rattle.std.proofs.Common.{◌+◌, ◌≤◌, ◌<◌, length, IsSome, refl, sym, subst, arith}
use Rattle.std.specs.FinMap as map
use Rattle.thread_slots.proofs.Placed.{number_of_live}
use Rattle.thread_slots.proofs.Layouts.{counted_before, IsLaidOut-removed, IsSound-from_layout}
use Rattle.thread_slots.proofs.slots.Slots.remove.Goals as goal

pub leave-requires : goal.leave-requires
leave-requires g c =
    let live = subst (λ s. IsSome (map.get s.threads c.args.t.0)) (sym c.self.view_is) c.requires in
    let low : (1 ≤ c.args.t.0) × (c.args.t.0 < length c.self.inside.entries.items + 1) = number_of_live c.self.inside.entries.items c.args.t.0 live in
    (low.0, omega (arith, low.1, c.self.invariant.places))

pub without-self-inside-requires : goal.without-self-inside-requires
without-self-inside-requires g c =
    let live = subst (λ s. IsSome (map.get s.threads c.args.t.0)) (sym c.self.view_is) c.requires in
    counted_before c.self.invariant c.args.t.0 c.clear-before.result (number_of_live c.self.inside.entries.items c.args.t.0 live).1 live c.clear-before.ensures.was

pub invariant_of-self : goal.invariant_of-self
invariant_of-self g c =
    let live = subst (λ s. IsSome (map.get s.threads c.args.t.0)) (sym c.self.view_is) c.requires in
    IsLaidOut-removed c.self.invariant _ c.leave.new.self _ _ _ _ c.args.t.0 c.clear-before.result
    c.clear-before.ensures.threads c.leave.ensures.ready c.leave.ensures.leased c.leave.ensures.places c.leave.ensures.spare c.clear-before.ensures.length refl c.clear-before.ensures.capacity
    (number_of_live c.self.inside.entries.items c.args.t.0 live).1 live c.clear-before.ensures.was c.without-self-inside.ensures

pub returns-clause-sound : goal.returns-clause-sound
returns-clause-sound g c = IsSound-from_layout _ _ _ _ _ (invariant_of-self g c)
