use Rattle.std.proofs.Common.{◌+◌, ◌≤◌, ◌<◌, length, IsSome, refl, sym, subst, arith}
use Rattle.std.specs.FinMap as map
use Rattle.thread_slots.proofs.Placed.{number_of_live}
use Rattle.thread_slots.proofs.Layouts.{counted_before, few_left, IsLaidOut-moved, IsSound-from_layout}
use Rattle.thread_slots.proofs.slots.Slots.set_state.Goals as goal

pub put-requires : goal.put-requires
put-requires g c =
    let live = subst (λ s. IsSome (map.get s.threads c.args.t.0)) (sym c.self.view_is) c.requires in
    let low : (1 ≤ c.args.t.0) × (c.args.t.0 < length c.self.inside.entries.items + 1) = number_of_live c.self.inside.entries.items c.args.t.0 live in
    (low.0, omega (arith, low.1, c.self.invariant.places))

pub without-requires : goal.without-requires
without-requires g c =
    let live = subst (λ s. IsSome (map.get s.threads c.args.t.0)) (sym c.self.view_is) c.requires in
    counted_before c.self.invariant c.args.t.0 c.replace_state-before.result (number_of_live c.self.inside.entries.items c.args.t.0 live).1 live c.replace_state-before.ensures.was

pub with-self-inside-requires : goal.with-self-inside-requires
with-self-inside-requires g c = few_left c.self.invariant c.without.result c.replace_state-before.result c.args.state c.without.ensures

pub invariant_of-self : goal.invariant_of-self
invariant_of-self g c =
    let live = subst (λ s. IsSome (map.get s.threads c.args.t.0)) (sym c.self.view_is) c.requires in
    IsLaidOut-moved c.self.invariant _ c.put.new.self _ _ _ _ c.args.t.0 _ c.replace_state-before.result c.args.state c.without.result
    c.replace_state-before.ensures.threads c.put.ensures.ready c.put.ensures.leased c.put.ensures.places c.put.ensures.spare c.replace_state-before.ensures.length refl c.replace_state-before.ensures.capacity
    (number_of_live c.self.inside.entries.items c.args.t.0 live).1 live c.replace_state-before.ensures.was (λ slot. refl) c.without.ensures c.with-self-inside.ensures

pub returns-clause-sound : goal.returns-clause-sound
returns-clause-sound g c = IsSound-from_layout _ _ _ _ _ (invariant_of-self g c)
