use Rattle.std.proofs.Common.{◌≡◌, ◌+◌, ◌≤◌, ◌<◌, cond, [], ◌∷◌, ◌++◌, length, length-append, true, false, sym, ap, ◌∙◌, arith}
use Rattle.std.specs.FinMap.{insert}
use Rattle.linked_lists.specs.Lists.{without}
use Rattle.thread_slots.specs.declared.state.State.TheVariants.{Ready, Leased}
use Rattle.thread_slots.specs.Slot.{same_state}
use Rattle.thread_slots.specs.Layout.{live}
use Rattle.thread_slots.proofs.Kept.{without-fresh}
use Rattle.thread_slots.proofs.Placed.{none_past, threads-open}
use Rattle.thread_slots.proofs.Layouts.{few, came_first, IsLaidOut-added, IsSound-from_layout}
use Rattle.thread_slots.proofs.slots.Slots.add.Goals as goal

pub with-self-inside-requires : goal.with-self-inside-requires
with-self-inside-requires g c = few c.self.invariant c.first_state-state.result

pub invariant_of-self : goal.invariant_of-self
invariant_of-self g c =
    let es = c.self.inside.entries.items in
    let t = c.next_thread-t.result.0 in
    let spare : c.self.inside.spare ≡ c.args.self.now.spare = ap (λ s. s.spare) c.self.view_is in
    let next : length es + 1 ≡ c.args.self.now.next = ap (λ s. s.next) c.self.view_is in
    let more : length c.fill.new.entries.items ≡ length es + 1 = c.fill.ensures.length ∙ ap length c.push_reserved.ensures.items ∙ length-append es _ in
    let number : t ≡ length es + 1 = c.next_thread-t.ensures ∙ sym next in
    IsLaidOut-added c.self.invariant _ c.put.new.self _ _ _ _ t _
    (c.fill.ensures.threads ∙ ap (λ es. insert (live es) t (record { control = c.args.control; generation = 0; state = c.first_state-state.result })) c.push_reserved.ensures.items ∙ ap (λ m. insert m t (record { control = c.args.control; generation = 0; state = c.first_state-state.result })) (threads-open es))
    (c.put.ensures.ready ∙ ap (λ q. without t q ++ cond (same_state Ready c.first_state-state.result) (t ∷ []) []) c.open.ensures.ready)
    (c.put.ensures.leased ∙ ap (λ q. without t q ++ cond (same_state Leased c.first_state-state.result) (t ∷ []) []) c.open.ensures.leased)
    (c.put.ensures.places ∙ c.open.ensures.places) (ap (λ n. n + 1) c.put.ensures.spare ∙ c.open.ensures.spare)
    more (omega (arith, c.requires.numbers)) (omega (arith, c.requires.spare)) (c.fill.ensures.capacity ∙ c.push_reserved.ensures.capacity)
    number (none_past es t (length es) number (omega arith)) c.with-self-inside.ensures

pub returns-clause-threads : goal.returns-clause-threads
returns-clause-threads g c =
    let es = c.self.inside.entries.items in
    let t = c.next_thread-t.result.0 in
    c.fill.ensures.threads ∙ ap (λ es. insert (live es) t (record { control = c.args.control; generation = 0; state = c.first_state-state.result })) c.push_reserved.ensures.items
    ∙ ap (λ m. insert m t (record { control = c.args.control; generation = 0; state = c.first_state-state.result })) (threads-open es ∙ ap (λ s. s.threads) c.self.view_is)
    ∙ ap (λ s. insert c.args.self.now.threads t (record { control = c.args.control; generation = 0; state = s })) c.first_state-state.ensures

pub returns-clause-queue : goal.returns-clause-queue
returns-clause-queue g c =
    let es = c.self.inside.entries.items in
    let t = c.next_thread-t.result.0 in
    let next : length es + 1 ≡ c.args.self.now.next = ap (λ s. s.next) c.self.view_is in
    let number : t ≡ length es + 1 = c.next_thread-t.ensures ∙ sym next in
    c.put.ensures.ready
    ∙ came_first c.args.ended t _ c.open.new.self.ready c.self.inside.queues.ready c.args.self.now.queue c.first_state-state.ensures c.open.ensures.ready
    (without-fresh Ready (live es) c.self.inside.queues.ready t (none_past es t (length es) number (omega arith)) c.self.invariant.queue) (ap (λ s. s.queue) c.self.view_is)

pub returns-clause-sound : goal.returns-clause-sound
returns-clause-sound g c = IsSound-from_layout _ _ _ _ _ (invariant_of-self g c)
